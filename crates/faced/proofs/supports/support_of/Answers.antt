use Rattle.std.proofs.Common.{sym, ap, ◌∙◌, w16, SFits}
use Rattle.std.specs.Int.{w128}
use Rattle.std.proofs.lemmas.Int.{to_z-of_z}
use Rattle.support.specs.Supports.{kept}
use Rattle.support.proofs.Tables.{small_at, support_at}
use Rattle.faced.proofs.supports.support_of.Goals as goal

pub face_product-requires : goal.face_product-requires
face_product-requires c = small_at c.args.face c.requires

pub returns : goal.returns
returns c =
    let r : SFits w16 c.round_up.result = record { sfits = c.round_up.type_inv } in
    let d : SFits w128 c.face_product.result = record { sfits = c.face_product.type_inv } in
    to_z-of_z w16 c.round_up.result r ∙ c.round_up.ensures ∙ ap kept (to_z-of_z w128 c.face_product.result d ∙ c.face_product.ensures.value)
    ∙ sym (support_at c.args.p.now c.args.face c.requires)
