use Rattle.std.proofs.Common.{◌≡◌, ◌*◌, ◌^◌, ◌≤◌, ℤ, nat_abs, sym, subst, arith, lit<, w16, w32, w64, SFits, rules}
use borrow.Author.Differences.{ints}
use mir.Syntax.{w128}
use Rattle.std.proofs.lemmas.Int.{to_z-of_z}
use Rattle.integers.proofs.Fits.{fits}
use Rattle.pairs.specs.Products.{dot, dot_small}
use Rattle.pairs.proofs.Words.{word}
use Rattle.axes.proofs.directions.product.Goals as goal

-- an entry of an axis in a longer word
longer : (z : ℤ) → SFits w16 z → word w64 (word w16 z) ≡ z
longer z f = omega (arith, ints)

-- the product of words fits a long word
product_fits : (r a b c x y z : ℤ) → SFits w16 a → SFits w16 b → SFits w16 c → SFits w32 x → SFits w32 y → SFits w32 z → r ≡ dot a b c x y z → (SFits w64 r) × (SFits w128 r)
product_fits r a b c x y z fa fb fc fx fy fz e = (fits w64 r (3 * (2 ^ 15 * 2 ^ 31)) small (lit< tt), fits w128 r (3 * (2 ^ 15 * 2 ^ 31)) small (lit< tt))
  where
    short : (n : ℤ) → SFits w16 n → nat_abs n ≤ 2 ^ 15
    short n f = omega (arith, ints)

    narrow : (n : ℤ) → SFits w32 n → nat_abs n ≤ 2 ^ 31
    narrow n f = omega (arith, ints)

    small : nat_abs r ≤ 3 * (2 ^ 15 * 2 ^ 31)
    small =
        subst (λ (n : ℤ). nat_abs n ≤ 3 * (2 ^ 15 * 2 ^ 31)) (sym e)
        (dot_small (2 ^ 15) (2 ^ 31) a b c x y z (short a fa) (short b fb) (short c fc) (narrow x fx) (narrow y fy) (narrow z fz))

pub overflow_cast-result : goal.overflow_cast-result
overflow_cast-result g c =
    let l = c.args.l.now in
    let fx = c.ranges.x in
    let fy = c.ranges.y in
    let fz = c.ranges.z in
    let ex = longer l.x (search rules) in
    let ey = longer l.y (search rules) in
    let ez = longer l.z (search rules) in
    let e = simp (ex, ey, ez, to_z-of_z) at c.dot.ensures.value in
    let (f, h) = product_fits c.dot.result l.x l.y l.z c.args.x c.args.y c.args.z (search rules) (search rules) (search rules) fx fy fz e in
    simp to_z-of_z f

pub returns : goal.returns
returns g c =
    let l = c.args.l.now in
    let fx = c.ranges.x in
    let fy = c.ranges.y in
    let fz = c.ranges.z in
    let ex = longer l.x (search rules) in
    let ey = longer l.y (search rules) in
    let ez = longer l.z (search rules) in
    let e = simp (ex, ey, ez, to_z-of_z) at c.dot.ensures.value in
    let (f, h) = product_fits c.dot.result l.x l.y l.z c.args.x c.args.y c.args.z (search rules) (search rules) (search rules) fx fy fz e in
    simp to_z-of_z e
