-- Two places are flagged and a third is written: what each field holds then.
use Rattle.std.proofs.Common.{◌≡◌, ℕ, ◌<◌, true, List, map, length, get_or, set, sym, refl, ap, ◌∙◌}
use Rattle.std.proofs.lemmas.List.{length-set, map-set, get_or-map, set-get_or}
use Rattle.register.specs.declared.place.Place.{Place}
use Rattle.register.specs.Tables.{items_of, heights_of, hulls_of, Joined}
use Rattle.register.proofs.Fields.{items_set, heights_set, tieds_set, hulls_set}

-- the place with its item tied
abbrev pub flagged : {H : Type 0} → Place H → Place H
flagged p = record { item = p.item; height = p.height; tied = true; hull = p.hull }

-- a field that the flag leaves alone
map_flagged : {H Y : Type 0} (f : Place H → Y) → ((p : Place H) → f (flagged p) ≡ f p) → (t s : List (Place H)) (i : ℕ) (d : Place H) → i < length t → map f s ≡ map f t → map f (set s i (flagged (get_or t i d))) ≡ map f t
map_flagged f same t s i d h e =
    let p = get_or t i d in
    map-set f s i (flagged p) ∙ (ap (λ l. set l i (f (flagged p))) e ∙ (ap (set (map f t) i) (same p ∙ sym (get_or-map f t i d (f d) h)) ∙ set-get_or (map f t) i (f d)))

module _ {H : Type 0} (t : List (Place H)) (i j at : ℕ) (dl dr tie : Place H) (hi : i < length t) (hj : j < length t) where
  abbrev left : Place H
  left = get_or t i dl

  abbrev right : Place H
  right = get_or t j dr

  abbrev once : List (Place H)
  once = set t i (flagged left)

  abbrev twice : List (Place H)
  twice = set once j (flagged right)

  abbrev pub thrice : List (Place H)
  thrice = set twice at tie

  length_once : length once ≡ length t
  length_once = length-set t i (flagged left)

  length_twice : length twice ≡ length t
  length_twice = length-set once j (flagged right) ∙ length_once

  pub length_thrice : length thrice ≡ length t
  length_thrice = length-set twice at tie ∙ length_twice

  items_once : items_of once ≡ items_of t
  unfolding items_of
  items_once = map_flagged _ (λ p. refl) t t i dl hi refl

  items_twice : items_of twice ≡ items_of t
  unfolding items_of
  items_twice = map_flagged _ (λ p. refl) t once j dr hj items_once

  heights_twice : heights_of twice ≡ heights_of t
  unfolding heights_of
  heights_twice = map_flagged _ (λ p. refl) t once j dr hj (map_flagged _ (λ p. refl) t t i dl hi refl)

  hulls_twice : hulls_of twice ≡ hulls_of t
  unfolding hulls_of
  hulls_twice = map_flagged _ (λ p. refl) t once j dr hj (map_flagged _ (λ p. refl) t t i dl hi refl)

  pub joined : Joined t thrice i j at tie
  joined = record {
    items = items_set twice at tie ∙ ap (λ l. set l at tie.item) items_twice;
    heights = heights_set twice at tie ∙ ap (λ l. set l at tie.height) heights_twice;
    tieds = tieds_set twice at tie ∙ ap (λ l. set l at tie.tied) (tieds_set once j (flagged right) ∙ ap (λ l. set l j true) (tieds_set t i (flagged left)));
    hulls = hulls_set twice at tie ∙ ap (λ l. set l at tie.hull) hulls_twice;
  }
