use Rattle.std.proofs.Common.{arith, rules}
use Rattle.register.proofs.Reading.{height_read, low_read}
use Rattle.book.specs.Books.{height_of_tie}
use Rattle.register.proofs.ties.tie_height.Goals as goal

pub overflow_add-result : goal.overflow_add-result
overflow_add-result g c =
    let t = c.args.page.now in
    let x = height_read t c.args.x c.index-page-x.result c.requires.within.0 c.index-page-x.is c.requires.known.0 in
    let y = height_read t c.args.y c.index-page-y.result c.requires.within.1 c.index-page-y.is c.requires.known.0 in
    let l = low_read t c.args.x c.index-page-x.result c.requires.within.0 c.index-page-x.is c.requires.known.1 in
    let m = low_read t c.args.y c.index-page-y.result c.requires.within.1 c.index-page-y.is c.requires.known.1 in
    search rules

pub returns : goal.returns
unfolding height_of_tie
returns g c =
    let t = c.args.page.now in
    let x = height_read t c.args.x c.index-page-x.result c.requires.within.0 c.index-page-x.is c.requires.known.0 in
    let y = height_read t c.args.y c.index-page-y.result c.requires.within.1 c.index-page-y.is c.requires.known.0 in
    omega (arith, x, y, c.max.ensures)
