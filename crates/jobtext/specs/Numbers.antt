-- Which words are counts and numbers, and what they are worth.
use Rattle.std.specs.Prelude.{ℕ, ◌<◌, ◌≤◌, Bool, cond, ◌&&◌, length, drop, ℤ, pos, neg_ℤ, Some, None, Option, ◌==◌, nat_le, nat_lt, slice_index}
use Rattle.std.specs.Option.{option_map}
use Rattle.std.specs.Str.Parse.{AllDigits, digits_value}
use Rattle.std.specs.Str.{all_ascii_digits}
use Rattle.jobtext.specs.Words.{Word}

-- 1 to 10 digits
abbrev pub Count : Word → Type 0
Count w = (0 < length w) × (length w ≤ 10) × AllDigits 10 w

-- has the word 1 to 10 digits?
abbrev pub is_count : Word → Bool
is_count w = nat_lt 0 (length w) && (nat_le (length w) 10 && all_ascii_digits w)

-- what a count is worth
unfoldable pub count_of : Word → Option ℕ
count_of w = cond (is_count w) (Some (digits_value 10 w)) None

-- the word begins with a minus
abbrev pub negative : Word → Bool
negative w = slice_index w 0 == 45

-- the word without its minus
abbrev pub digits : Word → Word
digits w = cond (negative w) (drop 1 w) w

-- a number of this size, with or without a minus in front
abbrev pub signed : Bool → ℕ → ℤ
signed minus n = cond minus (neg_ℤ (pos n)) (pos n)

-- what a number is worth: a count, with or without a minus in front
unfoldable pub number_of : Word → Option ℤ
number_of w = option_map (signed (negative w)) (count_of (digits w))

-- a count, with or without a minus in front
abbrev pub Number : Word → Type 0
Number w = Count (digits w)

-- what the digits of a number are worth, with its minus
abbrev pub amount : Word → ℤ
amount w = signed (negative w) (digits_value 10 (digits w))
