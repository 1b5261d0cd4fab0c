-- Rows of a section, read one after another.
use Rattle.std.proofs.Common.{◌≡◌, ℕ, suc, ◌+◌, List, [], ◌∷◌, ◌++◌, ℤ, Ok, Err, sym, ap, ◌∙◌, append_assoc, append-nil}
use Rattle.book.specs.declared.call.Request.{Request}
use Rattle.jobtext.specs.declared.fault.Fault.{Fault}
use Rattle.jobtext.specs.declared.section.Section.{Section}
use Rattle.jobtext.specs.Forms.{Form}
use Rattle.jobtext.specs.declared.entry.Entry.{Entry}
use Rattle.jobtext.specs.Readings.{Read, Stretch, before, asked, then, follow, numbers, row_due, rows}
use Rattle.jobtext.specs.Words.{Word}

-- the entry of a request at word k of the section
abbrev pub asked_at : Section → ℕ → Request → Entry
asked_at s k q = record { request = q; blame = record { section = s; word = k } }

module _ (f : Form) (s : Section) (k : ℕ) (ws : List Word) where
  -- all rows are still to be read
  pub rows_none : (n m : ℕ) → n ≡ m → before [] (rows f n s k ws) ≡ rows f m s k ws
  rows_none n m e = ap (λ i. rows f i s k ws) e

  module _ (es : List Entry) where
    begun : (m : ℕ) → Read Request → Stretch
    begun m r = before es (then r (λ q left. asked q s (k + f.width) (rows f m s (k + f.width) left)))

    -- one more row is read
    pub rows_more : (n m : ℕ) (q : Request) (left : List Word) → n ≡ suc m → row_due f s k ws ≡ Ok (q, left) → before es (rows f n s k ws) ≡ before (es ++ (asked_at s (k + f.width) q ∷ [])) (rows f m s (k + f.width) left)
    unfolding rows begun then asked
    rows_more n m q left e told =
        ap (λ i. before es (rows f i s k ws)) e ∙ ap (begun m) told ∙ ap (λ (l : List Entry). record { entries = l; ends = (rows f m s (k + f.width) left).ends }) (sym (append_assoc es (asked_at s (k + f.width) q ∷ []) (rows f m s (k + f.width) left).entries))

    -- a number of the row is missing, or is none
    pub rows_stop : (n m : ℕ) (e : Fault) → n ≡ suc m → row_due f s k ws ≡ Err e → before es (rows f n s k ws) ≡ record { entries = es; ends = Err e }
    unfolding rows begun then asked
    rows_stop n m e some told =
        ap (λ i. before es (rows f i s k ws)) some ∙ ap (begun m) told ∙ ap (λ (l : List Entry). record { entries = l; ends = Err e }) (append-nil es)

    -- no row is due any more
    pub rows_done : (n : ℕ) → n ≡ 0 → before es (rows f n s k ws) ≡ record { entries = es; ends = Ok ws }
    unfolding rows
    rows_done n none =
        ap (λ i. before es (rows f i s k ws)) none ∙ ap (λ (l : List Entry). record { entries = l; ends = Ok ws }) (append-nil es)

-- the numbers of a row are read
pub row_read : (f : Form) (s : Section) (k : ℕ) (ws : List Word) (ns : List ℤ) (left : List Word) → numbers f.width s k ws ≡ Ok (ns, left) → row_due f s k ws ≡ Ok (f.request ns, left)
unfolding row_due
row_read f s k ws ns left told = ap (λ (r : Read (List ℤ)). follow r (λ ns left. Ok (f.request ns, left))) told

pub row_stop : (f : Form) (s : Section) (k : ℕ) (ws : List Word) (e : Fault) → numbers f.width s k ws ≡ Err e → row_due f s k ws ≡ Err e
unfolding row_due
row_stop f s k ws e told = ap (λ (r : Read (List ℤ)). follow r (λ ns left. Ok (f.request ns, left))) told
