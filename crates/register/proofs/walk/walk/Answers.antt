use Rattle.std.proofs.Common.{◌≡◌, ℕ, ◌+◌, ◌-◌, ◌<◌, ◌≤◌, true, List, [], ◌∷◌, ◌++◌, length, take, sym, ap, ◌∙◌, ap₂, arith, rules}
use Rattle.std.proofs.lemmas.List.{length-take-le, nil_from_length}
use Rattle.std.proofs.lemmas.Bool.{not-true, not-false}
use Rattle.book.specs.Pages.{complete}
use Rattle.book.proofs.Wholes.{some_item}
use Rattle.walks.proofs.State.{Taken, begin}
use Rattle.register.specs.Tables.{items_of}
use Rattle.register.specs.declared.place.Place.{Place}
use Rattle.register.proofs.Fields.{length_items}
use Rattle.register.proofs.Walks.{walked_of, stands, popped, in_moved, in_standing, counted, parted_goes, room, parts_goes, facets_goes, full, ended}
use Rattle.register.proofs.walk.walk.Goals as goal
use Rattle.register.proofs.walk.walk.Goals.{In-Some}

some_item_in : {H : Type 0} (t : List (Place H)) → complete (items_of t) ≡ true → 1 ≤ length t
some_item_in t c = omega (arith, some_item (items_of t) c, length_items t)

-- the pair that is popped
abbrev pair : (g : _) (c : In-Some g) → Taken (walked_of g.H.Hull.reaches c.args.moved.now c.args.standing.now c.args.axes.now.placement)
pair g c = popped _ _ _ _ c.requires.moved.0 c.requires.standing.0 _ _ _ _ _ _ _ _ c.in-Some.ensures.held c.loop-i.invariant.state

pub overflow_sub-moved : goal.overflow_sub-moved
overflow_sub-moved g c = some_item_in c.args.moved.now c.requires.moved.0

pub overflow_sub-standing : goal.overflow_sub-standing
overflow_sub-standing g c = some_item_in c.args.standing.now c.requires.standing.0

pub loop-i-init : goal.loop-i-init
loop-i-init g c =
    let s = c.over-stack.result in
    let z : length (take s.len s.places.now) ≡ 0 = omega (arith, length-take-le s.len s.places.now s.within, c.over-stack.ensures.empty) in
    let state = begin (walked_of g.H.Hull.reaches c.args.moved.now c.args.standing.now c.args.axes.now.placement) (stands _ _ _ _ c.requires.moved.0 c.requires.standing.0) c.args.pairs.now _ (c.push.ensures.held ∙ (ap (λ (l : List (ℕ × ℕ)). l ++ (length c.args.moved.now - 1, length c.args.standing.now - 1) ∷ []) (nil_from_length _ z) ∙ ap₂ (λ (m n : ℕ). (m - 1, n - 1) ∷ []) (sym (length_items c.args.moved.now)) (sym (length_items c.args.standing.now)))) in
    record {
      room = omega (arith, c.push.ensures.room, c.over-stack.ensures.room);
      state = state;
      ends = λ e. ended _ _ _ _ _ _ _ _ _ _ e state;
    }

pub overflow_add-tests : goal.overflow_add-tests
overflow_add-tests g c =
    let k : c.loop-i.tests + 1 ≤ 4294967296 = counted _ _ _ _ (pair g (goal.at.overflow_add-tests g c).In-Some) c.requires.moved.1 c.requires.standing.1 in
    search rules

pub offset_bounds-moved-i : goal.offset_bounds-moved-i
offset_bounds-moved-i g c = let k : c.in-Some.i < length c.args.moved.now = in_moved _ _ _ _ (pair g (goal.at.offset_bounds-moved-i g c).In-Some) in omega arith

pub bounds-moved-i : goal.bounds-moved-i
bounds-moved-i g c = in_moved _ _ _ _ (pair g (goal.at.bounds-moved-i g c).In-Some)

pub offset_bounds-standing-j : goal.offset_bounds-standing-j
offset_bounds-standing-j g c = let k : c.in-Some.j < length c.args.standing.now = in_standing _ _ _ _ (pair g (goal.at.offset_bounds-standing-j g c).In-Some) in omega arith

pub bounds-standing-j : goal.bounds-standing-j
bounds-standing-j g c = in_standing _ _ _ _ (pair g (goal.at.bounds-standing-j g c).In-Some)

pub loop-i-smaller-then-parted : goal.loop-i-smaller-then-parted
loop-i-smaller-then-parted g c = (parted_goes _ _ _ _ (pair g (goal.at.loop-i-smaller-then-parted g c).In-Some) c.index-moved-i.result c.index-standing-j.result c.index-moved-i.is c.index-standing-j.is (c.if-parted.ensures.found tt)).less

pub loop-i-preserved-then-parted : goal.loop-i-preserved-then-parted
loop-i-preserved-then-parted g c =
    let state = (parted_goes _ _ _ _ (pair g (goal.at.loop-i-preserved-then-parted g c).In-Some) c.index-moved-i.result c.index-standing-j.result c.index-moved-i.is c.index-standing-j.is (c.if-parted.ensures.found tt)).state in
    record {
      room = omega (arith, c.in-Some.ensures.room, c.loop-i.invariant.room);
      state = state;
      ends = λ e. ended _ _ _ _ _ _ _ _ _ _ e state;
    }

pub push_parts-requires : goal.push_parts-requires
push_parts-requires g c n =
    let s = c.pop.new.self in
    let r = room _ _ _ _ (pair g (goal.at.push_parts-requires g c).In-Some) c.index-moved-i.result c.index-standing-j.result c.index-moved-i.is c.index-standing-j.is c.if-parted.ensures.missed n in
    omega (arith, r, length-take-le s.len s.places.now s.within, c.in-Some.ensures.room, c.loop-i.invariant.room)

pub loop-i-smaller-then-push_parts : goal.loop-i-smaller-then-push_parts
loop-i-smaller-then-push_parts g c = (parts_goes _ _ _ _ (pair g (goal.at.loop-i-smaller-then-push_parts g c).In-Some) c.index-moved-i.result c.index-standing-j.result c.index-moved-i.is c.index-standing-j.is c.if-parted.ensures.missed (not-true _ (sym c.if-push_parts.ensures.parts)) _ c.if-push_parts.ensures.held).less

pub loop-i-preserved-then-push_parts : goal.loop-i-preserved-then-push_parts
loop-i-preserved-then-push_parts g c =
    let state = (parts_goes _ _ _ _ (pair g (goal.at.loop-i-preserved-then-push_parts g c).In-Some) c.index-moved-i.result c.index-standing-j.result c.index-moved-i.is c.index-standing-j.is c.if-parted.ensures.missed (not-true _ (sym c.if-push_parts.ensures.parts)) _ c.if-push_parts.ensures.held).state in
    record {
      room = omega (arith, c.if-push_parts.ensures.room, c.in-Some.ensures.room, c.loop-i.invariant.room);
      state = state;
      ends = λ e. ended _ _ _ _ _ _ _ _ _ _ e state;
    }

pub returns-then-count-pairs : goal.returns-then-count-pairs
returns-then-count-pairs g c = full _ _ _ _ (pair g (goal.at.returns-then-count-pairs g c).In-Some) c.index-moved-i.result c.index-standing-j.result c.index-moved-i.is c.index-standing-j.is c.if-parted.ensures.missed (not-false _ (sym c.if-push_parts.ensures.parts)) c.if-count-pairs.true

pub loop-i-smaller : goal.loop-i-smaller
loop-i-smaller g c = (facets_goes _ _ _ _ (pair g (goal.at.loop-i-smaller g c).In-Some) c.index-moved-i.result c.index-standing-j.result c.index-moved-i.is c.index-standing-j.is c.if-parted.ensures.missed (not-false _ (sym c.if-push_parts.ensures.parts)) c.if-count-pairs.false _ c.if-push_parts.ensures.held).less

pub loop-i-preserved : goal.loop-i-preserved
loop-i-preserved g c =
    let state = (facets_goes _ _ _ _ (pair g (goal.at.loop-i-preserved g c).In-Some) c.index-moved-i.result c.index-standing-j.result c.index-moved-i.is c.index-standing-j.is c.if-parted.ensures.missed (not-false _ (sym c.if-push_parts.ensures.parts)) c.if-count-pairs.false _ c.if-push_parts.ensures.held).state in
    record {
      room = omega (arith, c.if-push_parts.ensures.room, c.in-Some.ensures.room, c.loop-i.invariant.room);
      state = state;
      ends = λ e. ended _ _ _ _ _ _ _ _ _ _ e state;
    }
