-- A text's bytes give its fields back: zeros stand behind them.
use Rattle.std.specs.Prelude.{ℕ, List, take, drop, length, replicate, set, min, ◌+◌, ◌-◌, ◌<◌, ◌≤◌, ◌≡◌, ◌++◌}
use native.Mathlib.Omega.{arith}
use mathlib.Core.Path.{◌∙◌, ap, sym}
use borrow.Rule.Slice.PartMut.{put_mid}
use lib.ListN.{length-set, length-take, length-drop, length-append}
use lib.Seq.{length-take-le, drop-append_seam}
use Rattle.std.proofs.lemmas.List.{take-append-drop, drop-drop, drop-replicate, drop-set-lt}
use Rattle.std.proofs.lemmas.Slice.{drop-put_mid}
use Rattle.text.specs.declared.text.Text.TheInside.{Inside}
use Rattle.text.specs.Text.{IsText}

-- zeros stand behind the bytes of a text
pub zeros_behind : (t : Inside) → IsText t → drop t.count t.bytes ≡ replicate (128 - t.count) 0
zeros_behind t h =
    let bytes : take t.count t.bytes ++ replicate (128 - length (take t.count t.bytes)) 0 ≡ t.bytes = ap (λ (a : Inside). a.bytes) h.1 in
    let count : length (take t.count t.bytes) ≡ t.count = ap (λ (a : Inside). a.count) h.1 in
    sym (ap (λ (n : ℕ). drop n t.bytes) count)
    ∙ sym (ap (drop (length (take t.count t.bytes))) bytes)
    ∙ drop-append_seam (take t.count t.bytes) (replicate (128 - length (take t.count t.bytes)) 0)
    ∙ ap (λ (n : ℕ). replicate (128 - n) 0) count

-- and what has zeros behind its bytes is a text
pub is_text : (l : List ℕ) (n : ℕ) → length l ≡ 128 → n ≤ 128 → drop n l ≡ replicate (128 - n) 0 → IsText (record { bytes = l; count = n })
is_text l n e h z =
    let count : length (take n l) ≡ n = length-take-le n l (omega arith) in
    let bytes : take n l ++ replicate (128 - n) 0 ≡ l = rw (← z) (take-append-drop n l) in
    (h, rw count (ap (λ (k : List ℕ). record { bytes = k; count = n }) bytes))

-- fewer zeros
fewer : (t : Inside) → IsText t → (k : ℕ) → drop (t.count + k) t.bytes ≡ replicate (128 - (t.count + k)) 0
fewer t h k =
    sym (drop-drop k t.count t.bytes)
    ∙ ap (drop k) (zeros_behind t h)
    ∙ drop-replicate k (128 - t.count) 0
    ∙ ap (λ (n : ℕ). replicate n 0) (omega arith)

module _ (t : Inside) (e : length t.bytes ≡ 128) (h : IsText t) where
  pub pushed : (b : ℕ) → t.count < 128 → IsText (record { bytes = set t.bytes t.count b; count = t.count + 1 })
  pushed b r =
      is_text (set t.bytes t.count b) (t.count + 1) (length-set t.bytes t.count b ∙ e) (omega arith)
      (drop-set-lt (t.count + 1) t.bytes t.count b (omega arith) ∙ fewer t h 1)

  pub added : (more w : List ℕ) (k j : ℕ) → k ≡ min (128 - t.count) (length more) → w ≡ take k more → k ≡ j → IsText (record { bytes = put_mid t.count j t.bytes w; count = t.count + k })
  added more w k j m q s =
      let long : length w ≡ k = rw q (length-take-le k more (omega arith)) in
      let whole : length (put_mid t.count j t.bytes w) ≡ length t.bytes =
      omega (
        arith,
        length-append (take t.count t.bytes) (w ++ drop j (drop t.count t.bytes)),
        length-append w (drop j (drop t.count t.bytes)),
        length-take t.count t.bytes,
        length-drop j (drop t.count t.bytes),
        length-drop t.count t.bytes,
      ) in
      is_text (put_mid t.count j t.bytes w) (t.count + k) (whole ∙ e) (omega arith)
      (drop-put_mid t.count j t.bytes w (t.count + k) (omega arith) (omega arith) (omega arith) ∙ fewer t h k)
