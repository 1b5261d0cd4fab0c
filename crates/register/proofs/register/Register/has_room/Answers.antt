use Rattle.std.proofs.Common.{sym}
use Rattle.book.proofs.LedgerLaws.{room_is}
use Rattle.register.specs.Registers.{book_of}
use Rattle.register.proofs.Fields.{sound, length_items}
use Rattle.register.proofs.register.Register.has_room.Goals as goal

pub returns-clause-room : goal.returns-clause-room
unfolding book_of
returns-clause-room g c = let r = c.args.self.now in
    sym (room_is _ _ _ _ _ (sound r) (length_items r.table.now))
