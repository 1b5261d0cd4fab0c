-- The words of a job.
use Rattle.std.specs.Prelude.{ℕ, Bool, cond, not, ◌||◌, List, [], ◌∷◌, ◌++◌, ◌==◌}

-- a job has at most so many bytes
abbrev pub job_limit : ℕ
job_limit = 65536

-- the bytes of a word
abbrev pub Word : Type 0
Word = List ℕ

-- the space and the line end
abbrev pub separator : ℕ → Bool
separator b = b == 32 || b == 10

abbrev pub letter : ℕ → Bool
letter b = not (separator b)

-- the word that ends here, if any
abbrev pub ended : List ℕ → List Word
ended [] = []
ended (b ∷ w) = (b ∷ w) ∷ []

-- the words of what follows the bytes w of a word
abbrev pub words_after : List ℕ → List ℕ → List Word
words_after w [] = ended w
words_after w (b ∷ bs) = cond (separator b) (ended w ++ words_after [] bs) (words_after (w ++ (b ∷ [])) bs)

-- the words between the separators
abbrev pub words : List ℕ → List Word
words bs = words_after [] bs
