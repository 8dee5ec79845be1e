-- A page, line by line.
use Prim.Native.Nat.{ℕ, zero, suc, ◌+◌, ◌-◌, ◌*◌, ◌≤◌, ◌<◌}
use native.Mathlib.Omega.{arith}
use native.Mathlib.Numerals.{add-one}
use mathlib.Core.Path.{◌≡◌, refl, sym, ◌∙◌, ap}
use mathlib.Core.List.{List, [], ◌++◌, append_assoc, append-nil}
use lib.ListN.{length, take, drop, length-append, length-drop, drop_of_length-le}
use lib.Seq.{take_all, take_at, drop_at, drop-drop, take-length}
use borrow.Author.Tests.{lt-ltb, le-ltb}
use borrow.Rule.Slice.PartMut.{mid_of, put_mid}
use Rattle.machine.specs.declared.Machine.{Machine}
use Rattle.meaning.specs.Map.{Map}
use Rattle.sheet.specs.Line.{Line, line_text}
use Rattle.sheet.specs.Sheet.{line_of, lines_text, sheet_text, sheet_bytes, reply, laid_out}
use Rattle.sheet.proofs.Lines.{line_length}

pub lines_length : (n : ℕ) (each : ℕ → Line) → length (lines_text n each) ≡ 41 * n
unfolding lines_text
lines_length zero each = refl
lines_length (suc n) each = omega (arith, length-append (lines_text n each) (line_text (each n)), lines_length n each, line_length (each n))

-- a text written to the part of a page that starts where p ends
written : (a : ℕ) (p d page text : List ℕ) → length p ≡ a → page ≡ p ++ d
    → put_mid a (length text) page text ≡ (p ++ text) ++ drop (length text) d
written a p d page text h e = rw (left, right) (sym (append_assoc p text (drop (length text) d)))
  where
    left : take a page ≡ p
    left = ap (take a) e ∙ take_at p d a h

    right : drop a page ≡ d
    right = ap (drop a) e ∙ drop_at p d a h

-- a line more
pub line_more : (n : ℕ) (each : ℕ → Line) (page₀ page text part : List ℕ) → page ≡ lines_text n each ++ drop (41 * n) page₀ → text ≡ line_text (each n) → part ≡ text
    → put_mid (41 * n) (41 * n + 41 - 41 * n) page part ≡ lines_text (n + 1) each ++ drop (41 * (n + 1)) page₀
unfolding lines_text
line_more n each page₀ page text part e f g =
    rw g (ap (λ (k : ℕ). put_mid (41 * n) k page text) (whole (41 * n) ∙ sym (ap length f ∙ line_length (each n))))
    ∙ written (41 * n) (lines_text n each) (drop (41 * n) page₀) page text (lines_length n each) e
    ∙ rw (f, line_length (each n), drop-drop 41 (41 * n) page₀, add-one n) (ap (λ (k : ℕ). lines_text (suc n) each ++ drop k page₀) (next n))
  where
    whole : (a : ℕ) → a + 41 - a ≡ 41
    whole a = omega arith

    next : (n : ℕ) → 41 * n + 41 ≡ 41 * suc n
    next n = omega arith

-- the page as it is left
module _ (m : Machine) (μ : Map) (page₀ : List ℕ) where
  pub page_short : length page₀ < sheet_bytes → reply 8 page₀ ≡ laid_out m μ page₀
  unfolding laid_out
  page_short h = rw (lt-ltb (length page₀) sheet_bytes h)

  pub page_full : (n : ℕ) (page : List ℕ) → n ≤ 16 → 16 ≤ n → sheet_bytes ≤ length page₀ → page ≡ lines_text n (line_of m.s μ) ++ drop (41 * n) page₀
      → reply 0 page ≡ laid_out m μ page₀
  unfolding laid_out sheet_text
  page_full n page h k l e = rw (le-ltb (length page₀) sheet_bytes l, e ∙ ap (λ (n : ℕ). lines_text n (line_of m.s μ) ++ drop (41 * n) page₀) (same n h k))
    where
      same : (n : ℕ) → n ≤ 16 → 16 ≤ n → n ≡ 16
      same n h k = omega arith
