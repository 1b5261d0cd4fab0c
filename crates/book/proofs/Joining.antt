-- The questions of a tie, at any two numbers.
use Rattle.std.proofs.Common.{◌≡◌, ℕ, ◌≤◌, true, false, not, eqb, ltb, ◌⊎◌, List, length, ℤ, pos, negsuc, nat_abs, refl, inl, ⊎_elim}
use Rattle.std.proofs.lemmas.Bool.{and_left, and_right, not_from_true, le-ltb, eq-eqb}
use Rattle.book.specs.declared.item.Item.{Item}
use Rattle.book.specs.Trees.{tied}
use Rattle.book.specs.Books.{free, joinable, counts, joins}

free_no : (p : List Item) (x : ℕ) → (length p ≤ x) ⊎ (tied p x ≡ true) → free p x ≡ false
unfolding free
free_no p x = ⊎_elim (λ h. and_left _ _ (le-ltb x (length p) h)) (λ t. and_right (ltb x (length p)) _ (not_from_true _ t))

module _ (p : List Item) (i j : ℕ) where
  pub joinable_left : (length p ≤ i) ⊎ (tied p i ≡ true) → joinable p i j ≡ false
  unfolding joinable
  joinable_left h = and_right (not (eqb i j)) _ (and_left _ (free p j) (free_no p i h))

  pub joinable_right : (length p ≤ j) ⊎ (tied p j ≡ true) → joinable p i j ≡ false
  unfolding joinable
  joinable_right h = and_right (not (eqb i j)) _ (and_right (free p i) _ (free_no p j h))

  pub joinable_same : i ≡ j → joinable p i j ≡ false
  unfolding joinable
  joinable_same e = and_left _ _ (not_from_true _ (eq-eqb i j e))

  pub joins_pos : (x y : ℤ) → x ≡ pos i → y ≡ pos j → joins p x y ≡ joinable p i j
  unfolding joins
  joins_pos x y ex ey = rw (ex, ey) refl

-- a number that is no item's
pub joins_past_left : (p : List Item) (x y : ℤ) → ((k : ℕ) → x ≡ pos k → length p ≤ k) → joins p x y ≡ false
unfolding joins
joins_past_left p (pos k) y h = and_right (counts y) _ (joinable_left p k (nat_abs y) (inl (h k refl)))
joins_past_left p (negsuc k) y h = refl

pub joins_past_right : (p : List Item) (x y : ℤ) → ((k : ℕ) → y ≡ pos k → length p ≤ k) → joins p x y ≡ false
unfolding joins
joins_past_right p x (pos k) h = and_right (counts x) _ (joinable_right p (nat_abs x) k (inl (h k refl)))
joins_past_right p x (negsuc k) h = and_right (counts x) _ refl
