use Rattle.std.proofs.Common.{◌≡◌, ℤ, Bor, List, true, false, ◌&&◌, MatchOption, Option, None, Some, Err, Result, refl, ap, ◌∙◌, ap₂, subst₂, to_z, of_z, w64, SFits, rules}
use Rattle.std.proofs.lemmas.Int.{to_z-of_z}
use Rattle.std.proofs.lemmas.Bool.{and_from}
use Rattle.std.proofs.lemmas.Option.{MatchOption-at_some, MatchOption-at_none}
use Rattle.std.specs.Option.{ok_or}
use Rattle.std.specs.Result.{IsErrAnd}
use Rattle.std.proofs.lemmas.Result.{err_from_is_err_and}
use Rattle.hull.specs.declared.kind.Hull as hull
use Rattle.book.specs.Books.{closed}
use Rattle.book.specs.Pages.{complete}
use Rattle.book.specs.declared.refusal.Refusal.{Refusal}
use Rattle.placement.specs.Twelve.{entries}
use Rattle.walks.specs.Answers.{WalkedInto, Answers, no_object, no_placement}
use Rattle.walks.proofs.Listing.{Laws}
use Rattle.register.specs.declared.place.Place.{Place}
use Rattle.register.specs.declared.register.Register.{Register}
use Rattle.register.specs.Registers.{book_of}
use Rattle.register.specs.Comparing.{places_of, WalkStored, comparison, compared}
use Rattle.register.proofs.Shelf.{shelved}
use Rattle.register.proofs.Comparing.{walk_answers, grown_answers}
use Rattle.register.proofs.register.Register.compare.Given as given
use Rattle.register.proofs.register.Register.compare.Goals as goal

-- the laws of the kind
laws_of : (g : given.Over) → Laws g.H.Hull.begun g.H.Hull.grown g.H.Hull.reaches g.H.Hull.fits g.H.Hull.faced g.H.Hull.unrounded
laws_of g = record { one = g.met.H.Hull.one; another = g.met.H.Hull.another; covers = g.met.H.Hull.covers; tight = g.met.H.Hull.tight; rounds = g.met.H.Hull.rounds }

-- what object says of a number, whatever casts that went through
module _ {H : Type 0} {kind : hull.Ghosts H} (r : Register H kind) (n : ℤ) (f : SFits w64 n) (o : Option (Bor (List (Place H)))) (w : MatchOption o (closed (book_of r) (to_z w64 (of_z w64 n)) ≡ false) (λ s. (closed (book_of r) (to_z w64 (of_z w64 n)) ≡ true) × (s.now ≡ places_of r (to_z w64 (of_z w64 n))))) where
  missing : o ≡ None → closed (book_of r) n ≡ false
  missing e = simp to_z-of_z at (MatchOption-at_none _ _ e w)

  there : (s : Bor (List (Place H))) → o ≡ Some s → (closed (book_of r) n ≡ true) × (s.now ≡ places_of r n)
  there s e = simp to_z-of_z at (MatchOption-at_some _ _ s e w)

-- what was missing is the refusal that is returned
refused : {X Y : Type 0} (o : Option X) (e why : Refusal) (out : Result Y Refusal) → o ≡ None → ◌≡◌ {A = Result X Refusal} (Err e) (ok_or o why) → IsErrAnd out (λ y. y ≡ e) → out ≡ Err why
refused {X} o e why out n v i =
    let p = err_from_is_err_and out i in
    let w : ◌≡◌ {A = Result X Refusal} (Err e) (Err why) = rw n at v in
    cc

pub returns-in_err-left : goal.returns-in_err-left
returns-in_err-left g c =
    let n = c.in_err-left.ensures in
    let e = ap (λ v. v && closed (book_of c.args.self.now) c.args.standing) (missing c.args.self.now c.args.moved (search rules) _ c.object.ensures n.ok_part) in
    rw (refused _ _ _ _ n.ok_part n.value c.from_residual.ensures.1) (record { stored = no_object e refl; grown = no_object e refl })

pub returns-in_err-right : goal.returns-in_err-right
returns-in_err-right g c =
    let n = c.in_err-right.ensures in
    let m = there c.args.self.now c.args.moved (search rules) _ c.object.ensures _ c.in_ok-left.ensures.ok_part in
    let e = ap₂ ◌&&◌ m.0 (missing c.args.self.now c.args.standing (search rules) _ c.object-2.ensures n.ok_part) in
    rw (refused _ _ _ _ n.ok_part n.value c.from_residual-in_err-right.ensures.1) (record { stored = no_object e refl; grown = no_object e refl })

pub returns-in_err-placement : goal.returns-in_err-placement
returns-in_err-placement g c =
    let n = c.in_err-placement.ensures in
    let m = there c.args.self.now c.args.moved (search rules) _ c.object.ensures _ c.in_ok-left.ensures.ok_part in
    let s = there c.args.self.now c.args.standing (search rules) _ c.object-2.ensures _ c.in_ok-right.ensures.ok_part in
    let y = and_from _ _ m.0 s.0 in
    let o = MatchOption-at_none _ _ n.ok_part c.new.ensures in
    rw (refused _ _ _ _ n.ok_part n.value c.from_residual-in_err-placement.ensures.1) (record { stored = no_placement y o refl; grown = no_placement y o refl })

pub walk-requires : goal.walk-requires
walk-requires g c =
    let em = there c.args.self.now c.args.moved (search rules) _ c.object.ensures _ c.in_ok-left.ensures.ok_part in
    let es = there c.args.self.now c.args.standing (search rules) _ c.object-2.ensures _ c.in_ok-right.ensures.ok_part in
    let a = shelved c.args.self.now c.args.moved em.0 in
    let b = shelved c.args.self.now c.args.standing es.0 in
    record {
      moved = (rw em.1 (ap complete a.object_items ∙ a.whole), rw em.1 a.few);
      standing = (rw es.1 (ap complete b.object_items ∙ b.whole), rw es.1 b.few);
    }

pub returns : goal.returns
returns g c =
    let em = there c.args.self.now c.args.moved (search rules) _ c.object.ensures _ c.in_ok-left.ensures.ok_part in
    let es = there c.args.self.now c.args.standing (search rules) _ c.object-2.ensures _ c.in_ok-right.ensures.ok_part in
    let y = and_from _ _ em.0 es.0 in
    let r = c.args.self.now in
    let p = c.new-2.result.placement in
    let o = MatchOption-at_some _ _ _ c.in_ok-placement.ensures.ok_part c.new.ensures in
    let e : entries p ≡ c.args.placement = ap entries c.new-2.ensures ∙ o in
    let k = subst₂ (λ a b. WalkedInto (WalkStored g.H.Hull.reaches a b p) c.args.pairs.now c.walk.new.pairs c.walk.result) em.1 es.1 c.walk.ensures in
    let w : Answers (book_of r) (comparison c.args.moved c.args.standing c.args.placement) (WalkStored g.H.Hull.reaches (places_of r c.args.moved) (places_of r c.args.standing)) c.args.pairs.now c.walk.new.pairs (compared c.walk.result) = walk_answers p c.walk.result y e k in
    record { stored = w; grown = grown_answers (laws_of g) r c.args.moved c.args.standing c.args.placement w }
