use Rattle.std.proofs.Common.{◌≡◌, ◌<◌, [], ◌∷◌, ◌++◌, length, take, ap, ◌∙◌, arith, rules}
use Rattle.std.proofs.lemmas.List.{length-take-le, nil_from_length}
use Rattle.book.proofs.Forest.{low_at}
use Rattle.book.proofs.Pending.{growing_one, growing_none}
use Rattle.register.specs.Tables.{items_of}
use Rattle.register.proofs.Fields.{length_items}
use Rattle.register.proofs.Turns.{inside, facet_turn, facet_less, tie_room, tie_turn, tie_less}
use Rattle.register.proofs.ties.over_item.Goals as goal

pub loop-i-init : goal.loop-i-init
loop-i-init g c =
    let t = c.args.page.now in
    let s = c.over-stack.result in
    let y = c.args.y in
    let z : length (take s.len s.places.now) ≡ 0 = omega (arith, length-take-le s.len s.places.now s.within, c.over-stack.ensures.empty) in
    let lt : y < length (items_of t) = omega (arith, length_items t, c.requires.1) in
    let one = c.push.ensures.held ∙ ap (λ q. q ++ y ∷ []) (nil_from_length _ z) in
    record {
      room = omega (arith, c.push.ensures.room, c.over-stack.ensures.room);
      growing = rw one (growing_one g.H.Hull.grown (items_of t) c.args.hull y lt (low_at (items_of t) y lt c.requires.0));
    }

pub offset_bounds-page-i : goal.offset_bounds-page-i
offset_bounds-page-i g c =
    let lt : c.in-Some.i < length c.args.page.now = inside _ _ _ _ _ _ _ c.in-Some.ensures.held c.loop-i.invariant.growing in
    search rules

pub bounds-page-i : goal.bounds-page-i
bounds-page-i g c = inside _ _ _ _ _ _ _ c.in-Some.ensures.held c.loop-i.invariant.growing

pub loop-i-smaller-in-Facet : goal.loop-i-smaller-in-Facet
loop-i-smaller-in-Facet g c = facet_less _ _ _ _ _ _ _ c.in-Some.ensures.held c.loop-i.invariant.growing c.index-page-i.result c.index-page-i.is c.in-Facet.facet c.in-Facet.is

pub loop-i-preserved-in-Facet : goal.loop-i-preserved-in-Facet
loop-i-preserved-in-Facet g c = record {
  room = omega (arith, c.in-Some.ensures.room, c.loop-i.invariant.room);
  growing = rw c.over_facet-grown.ensures (facet_turn _ _ _ _ _ _ _ c.in-Some.ensures.held c.loop-i.invariant.growing c.index-page-i.result c.index-page-i.is c.in-Facet.facet c.in-Facet.is);
}

pub push-requires-in-Tie-2 : goal.push-requires-in-Tie-2
push-requires-in-Tie-2 g c =
    let s = c.pop.new.self in
    let r = tie_room _ _ _ _ _ _ _ c.in-Some.ensures.held c.loop-i.invariant.growing c.index-page-i.result c.index-page-i.is c.requires.0 c.in-Tie.a c.in-Tie.b c.in-Tie.is in
    omega (arith, r, length-take-le s.len s.places.now s.within, c.in-Some.ensures.room, c.loop-i.invariant.room, c.push-in-Tie.ensures.len, c.push-in-Tie.ensures.room)

pub loop-i-smaller : goal.loop-i-smaller
loop-i-smaller g c = tie_less _ _ _ _ _ _ _ c.in-Some.ensures.held c.loop-i.invariant.growing c.index-page-i.result c.index-page-i.is c.requires.0 c.in-Tie.a c.in-Tie.b c.in-Tie.is _
    (c.push-in-Tie-2.ensures.held ∙ ap (λ q. q ++ c.in-Tie.a ∷ []) c.push-in-Tie.ensures.held)

pub loop-i-preserved : goal.loop-i-preserved
loop-i-preserved g c = record {
  room = omega (arith, c.in-Some.ensures.room, c.loop-i.invariant.room, c.push-in-Tie.ensures.room, c.push-in-Tie-2.ensures.room);
  growing = tie_turn _ _ _ _ _ _ _ c.in-Some.ensures.held c.loop-i.invariant.growing c.index-page-i.result c.index-page-i.is c.requires.0 c.in-Tie.a c.in-Tie.b c.in-Tie.is _
      (c.push-in-Tie-2.ensures.held ∙ ap (λ q. q ++ c.in-Tie.a ∷ []) c.push-in-Tie.ensures.held);
}

pub returns : goal.returns
returns g c =
    let s = c.loop-i.stack in
    let z : length (take s.len s.places.now) ≡ 0 = omega (arith, length-take-le s.len s.places.now s.within, c.in_default.ensures.held) in
    growing_none _ _ _ _ _ z c.loop-i.invariant.growing
