use Rattle.std.proofs.Common.{◌≡◌, ◌≤◌, length, take}
use Rattle.std.specs.Str.Parse.{AllDigits, digits_value}
use Rattle.words.proofs.number.read_count.Given as goal

abbrev pub invariant-loop-byte : goal.invariant-loop-byte
invariant-loop-byte l =
    (length l.word ≤ 10) × (l.total ≡ digits_value 10 (take l.byte-index l.word)) × AllDigits 10 (take l.byte-index l.word)
