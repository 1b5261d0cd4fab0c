-- The page is thrown away.
use Rattle.std.proofs.Common.{◌≡◌, None, ap, ◌∙◌}
use Rattle.hull.specs.declared.kind.Hull as hull
use Rattle.book.specs.Books.{turned}
use Rattle.book.specs.Ledgers.{book_over}
use Rattle.register.specs.declared.register.Register.{Register}
use Rattle.register.specs.Tables.{items_of}
use Rattle.register.specs.Registers.{book_of, cleared}

module _ {H : Type 0} {kind : hull.Ghosts H} (before after : Register H kind) (l : after.ledger ≡ cleared before.ledger) (t : after.table.now ≡ before.table.now) where
  pub book_cleared : book_of after ≡ turned (book_of before) None
  unfolding book_of book_over
  book_cleared = ap (λ q. book_over q (items_of after.table.now)) l ∙ ap (λ q. book_over (cleared before.ledger) (items_of q)) t
