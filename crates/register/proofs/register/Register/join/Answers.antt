use Rattle.std.proofs.Common.{refl, rules}
use borrow.Author.Rules.{scaled_Fits}
use Rattle.std.proofs.lemmas.List.{length-set}
use Rattle.register.proofs.Fields.{spread}
use Rattle.register.proofs.Entering.{off, x_place, y_place, some_loose, grown_off, items_off, hulls_off, length_off, ghosts_off, joined3, ghosts3}
use Rattle.register.proofs.register.Register.join.Goals as goal

pub overflow_sub-loose : goal.overflow_sub-loose
overflow_sub-loose g c = some_loose _ _ _ _ c.requires

pub offset_bounds-self-i : goal.offset_bounds-self-i
offset_bounds-self-i g c = scaled_Fits _ _ _ (x_place _ _ _ _ c.requires) (search rules)

pub bounds-self-i : goal.bounds-self-i
bounds-self-i g c = x_place _ _ _ _ c.requires

pub offset_bounds-self-j : goal.offset_bounds-self-j
offset_bounds-self-j g c = scaled_Fits _ _ _ (y_place _ _ _ _ c.requires) (search rules)

pub bounds-self-j : goal.bounds-self-j
bounds-self-j g c = y_place _ _ _ _ c.requires

pub invariant_of-self : goal.invariant_of-self
invariant_of-self g c = let r = c.args.self.now in spread g.H.Hull _ _ (off r r.table.now refl refl) r.alone (grown_off r r.table.now refl refl)

pub offset_bounds-self-i-2 : goal.offset_bounds-self-i-2
offset_bounds-self-i-2 g c = scaled_Fits _ _ _ (x_place _ _ _ _ c.requires) (search rules)

pub bounds-self-i-2 : goal.bounds-self-i-2
bounds-self-i-2 g c = x_place _ _ _ _ c.requires

pub invariant_of-self-2 : goal.invariant_of-self-2
invariant_of-self-2 g c = let r = c.args.self.now in ghosts_off r r.table.now refl refl refl _ c.index-self-i.result _ (x_place _ _ _ _ c.requires) refl refl

pub offset_bounds-self-j-2 : goal.offset_bounds-self-j-2
offset_bounds-self-j-2 g c = scaled_Fits _ _ _ (y_place _ _ _ _ c.requires) (search rules)

pub bounds-self-j-2 : goal.bounds-self-j-2
bounds-self-j-2 g c = simp length-set (y_place _ _ _ _ c.requires)

pub invariant_of-self-3 : goal.invariant_of-self-3
invariant_of-self-3 g c =
    let r = c.args.self.now in
    let h = x_place _ _ _ _ c.requires in
    let d = c.index-self-i.result in
    ghosts_off r _ (length_off r _ refl refl refl _ d _ h refl refl) (items_off r _ refl refl refl _ d _ h refl refl) (hulls_off r _ refl refl refl _ d _ h refl refl) _ c.index-self-j.result _ (y_place _ _ _ _ c.requires) refl refl

pub invariant_of-self-4 : goal.invariant_of-self-4
invariant_of-self-4 g c = ghosts3 _ _ _ _ c.requires c.index-self-i.result c.index-self-j.result

pub returns-clause-table : goal.returns-clause-table
returns-clause-table g c =
    joined3 _ _ _ _ c.requires c.index-self-i.result c.index-self-j.result
