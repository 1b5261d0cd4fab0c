-- Division with a stated rounding, by a number above 0.
use Rattle.std.specs.Prelude.{ℕ, suc, ◌+◌, ◌-◌, ◌/◌, ℤ, pos, negsuc, neg_ℤ}

-- z / n rounded up, towards plus infinity
abbrev pub div_up : ℤ → ℕ → ℤ
div_up (pos k) n = pos ((k + (n - 1)) / n)
div_up (negsuc k) n = neg_ℤ (pos (suc k / n))

-- z / n rounded down, towards minus infinity
abbrev pub div_down : ℤ → ℕ → ℤ
div_down (pos k) n = pos (k / n)
div_down (negsuc k) n = negsuc (k / n)
