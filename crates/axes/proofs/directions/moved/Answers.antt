use Rattle.std.proofs.Common.{◌≡◌, ◌≤◌, ℤ, nat_abs, ◌∙◌, lit<, w32, w64, SFits, rules}
use Rattle.std.proofs.lemmas.Int.{to_z-of_z}
use Rattle.hull.specs.Directions.{direction}
use Rattle.placement.specs.declared.parts.Placement.{Placement}
use Rattle.placement.specs.Units.{matrix_limit}
use Rattle.pairs.specs.Records.{Axis}
use Rattle.pairs.specs.Products.{along}
use Rattle.pairs.specs.Directions.{moved_direction}
use Rattle.pairs.proofs.Words.{word, product_read}
use Rattle.pairs.proofs.Entries.{Entries, in_range, made_of}
use Rattle.axes.proofs.directions.moved.Goals as goal

module _ (p : Placement) (l : Axis) where
  -- a number is the product with a column of the matrix, as it is asked for
  abbrev Product : ℤ → ℤ → ℤ → ℤ → Type 0
  Product r x y z = r ≡ along l (word w32 x) (word w32 y) (word w32 z)

  column : (r x y z : ℤ) → SFits w64 r → nat_abs x ≤ matrix_limit → nat_abs y ≤ matrix_limit → nat_abs z ≤ matrix_limit → Product r x y z → word w64 r ≡ along l x y z
  column r x y z f hx hy hz e = to_z-of_z w64 r f ∙ e ∙ product_read matrix_limit (lit< tt) l x y z hx hy hz

  entries : (a b c : ℤ) → SFits w64 a → SFits w64 b → SFits w64 c → Product a p.x.x p.y.x p.z.x → Product b p.x.y p.y.y p.z.y → Product c p.x.z p.y.z p.z.z → Entries (word w64 a) (word w64 b) (word w64 c) (moved_direction p l)
  unfolding moved_direction direction
  entries a b c fa fb fc ea eb ec = (
    column a p.x.x p.y.x p.z.x fa p.x.x_in p.y.x_in p.z.x_in ea,
    column b p.x.y p.y.y p.z.y fb p.x.y_in p.y.y_in p.z.y_in eb,
    column c p.x.z p.y.z p.z.z fc p.x.z_in p.y.z_in p.z.z_in ec,
  )

pub direction-requires : goal.direction-requires
direction-requires c =
    let p = c.args.p.now in
    let l = c.args.l.now in
    in_range (moved_direction p l) (entries p l c.product.result c.product-2.result c.product-3.result (search rules) (search rules) (search rules) c.product.ensures c.product-2.ensures c.product-3.ensures)

pub returns : goal.returns
returns c =
    let p = c.args.p.now in
    let l = c.args.l.now in
    made_of (moved_direction p l) (entries p l c.product.result c.product-2.result c.product-3.result (search rules) (search rules) (search rules) c.product.ensures c.product-2.ensures c.product-3.ensures) c.direction.result c.direction.ensures
