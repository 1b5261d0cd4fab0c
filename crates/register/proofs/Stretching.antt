-- A part of a list that is lent and comes back.
use Rattle.std.proofs.Common.{◌≡◌, ℕ, ◌+◌, ◌-◌, ◌<◌, ◌≤◌, min, List, length, take, drop, sym, refl, ap, ◌∙◌, ⊎_elim, arith}
use borrow.Rule.Slice.PartMut.{put_mid, same_len_mid}
use Rattle.std.proofs.lemmas.List.{length-take, length-drop, take_all}
use Rattle.std.proofs.lemmas.Slice.{take-put_mid_below, drop-put_mid, between-put_mid}
use Rattle.std.proofs.lemmas.Bool.{cases_lt}

-- n of the places from a on, as many as are wanted or as there are, come back as ys
module _ {X : Type 0} (xs ys : List X) (a n places : ℕ) (h : a ≤ length xs) (e : n ≡ min places (length xs - a)) (l : length ys ≡ n) where
  abbrev put : List X
  put = put_mid a ((a + n) - a) xs ys

  long : length put ≡ length xs
  long = same_len_mid a ((a + n) - a) xs ys (omega (arith, length-take ((a + n) - a) (drop a xs), length-drop a xs))

  cut : (zs : List X) → length zs ≡ length xs → take ((a + n) - a) (drop a zs) ≡ take places (drop a zs)
  cut zs k = ⊎_elim
      (λ (w : places < length xs - a). let i : (a + n) - a ≡ places = omega arith in ap (λ (m : ℕ). take m (drop a zs)) i)
      (λ (w : length xs - a ≤ places). take_all ((a + n) - a) (drop a zs) (omega (arith, length-drop a zs)) ∙ sym (take_all places (drop a zs) (omega (arith, length-drop a zs))))
      (cases_lt places (length xs - a))

  pub lent : take ((a + n) - a) (drop a xs) ≡ take places (drop a xs)
  lent = cut xs refl

  pub returned : ys ≡ take places (drop a put)
  returned = sym (between-put_mid a ((a + n) - a) xs ys (a + n) h (omega arith)) ∙ cut put long

  pub front : take a put ≡ take a xs
  front = take-put_mid_below a ((a + n) - a) xs ys a (omega arith) h

  pub back : drop (a + n) put ≡ drop (a + n) xs
  back = drop-put_mid a ((a + n) - a) xs ys (a + n) (omega arith) h (omega arith)
