-- A line by its item, and a text's lines in turn, as the code has them: parts of a slice.
use Prim.Native.Nat.{ℕ, suc, ◌+◌, ◌-◌, ◌≤◌, ◌<◌}
use native.Mathlib.Omega.{arith}
use native.Mathlib.Numerals.{add-one}
use mathlib.Core.Path.{◌≡◌, sym, ◌∙◌, ap}
use mathlib.Core.List.{List}
use lib.ListN.{length, take, drop, length-drop, length-take, drop_of_length-le}
use lib.Seq.{drop-drop}
use Rattle.listing.specs.Item as item
use Rattle.listing.specs.declared.line.Expected.{Expected}
use Rattle.listing.specs.Line.{item_of}
use Rattle.tokens.specs.Token.{before_of, content_of, lines_of, split, words_of}
use Rattle.numerals.proofs.Reading.{rest}
use Rattle.tokens.proofs.Words.{before_found}
use Rattle.std.proofs.lemmas.List.Sums.{prefix_len-le-length}
use lib.Dec.{eqb}
use mathlib.Core.Bool.{not}
use Rattle.listing.proofs.Splitting.{lines_one}
use Rattle.script.specs.Layout.{Layout}
use Rattle.script.specs.Step.{Step}
use Rattle.script.specs.Step as step
use Rattle.script.specs.declared.mistake.Mistake.{Mistake}
use Rattle.script.specs.declared.mistake.Mistake.TheVariants as mistake
use Rattle.script.specs.Taken.{All, Wrong}
use Rattle.script.specs.Item.{Buffers, Outcome, outcome, word_outcome, set_outcome, unknown_outcome, window_step, item_outcome, line_outcome}
use Rattle.script.specs.Text.{reading, follow, lines_reading}

module _ (l : List ℕ) (y : Layout) (b : Buffers) where
  by_item : (i : item.Item) → i ≡ item_of l → item_outcome i l y b ≡ line_outcome l y b
  unfolding line_outcome
  by_item i e = ap (λ (j : item.Item). item_outcome j l y b) e

  pub line_nothing : item.Nothing ≡ item_of l → outcome (step.On y) b ≡ line_outcome l y b
  unfolding item_outcome
  line_nothing e = by_item item.Nothing e

  pub line_mistake : (m : Expected) → item.Mistake m ≡ item_of l → outcome (step.Wrong (mistake.Item m)) b ≡ line_outcome l y b
  unfolding item_outcome
  line_mistake m e = by_item (item.Mistake m) e

  pub line_window : (base n : ℕ) (s : Step) → s ≡ window_step base n y → item.Window base n ≡ item_of l → outcome s b ≡ line_outcome l y b
  unfolding item_outcome
  line_window base n s q e = ap (λ (z : Step). outcome z b) q ∙ by_item (item.Window base n) e

  module _ (o : Outcome) where
    pub line_word : (x : ℕ) → o ≡ word_outcome x y b → item.Word x ≡ item_of l → o ≡ line_outcome l y b
    unfolding item_outcome
    line_word x q e = q ∙ by_item (item.Word x) e

    pub line_set : (p x : ℕ) → o ≡ set_outcome p x y b → item.Set p x ≡ item_of l → o ≡ line_outcome l y b
    unfolding item_outcome
    line_set p x q e = q ∙ by_item (item.Set p x) e

    pub line_unknown : (n : ℕ) → o ≡ unknown_outcome (words_of (drop n l)) y b → item.Unknown n ≡ item_of l → o ≡ line_outcome l y b
    unfolding item_outcome
    line_unknown n q e = q ∙ by_item (item.Unknown n) e

before_few : (b : ℕ) (t : List ℕ) → before_of b t ≤ length t
before_few b t = omega (arith, before_found b t, prefix_len-le-length (λ x. not (eqb x b)) t)

module _ (t : List ℕ) (at line : ℕ) (y : Layout) (b : Buffers) where
  pub lines_end : length t ≤ at → reading (All y) b ≡ lines_reading (lines_of (drop at t)) line y b
  unfolding lines_reading split
  lines_end h = rw (drop_of_length-le t h)

  module _ (h : at < length t) where
    abbrev from : List ℕ
    from = drop at t

    abbrev part : List ℕ
    part = take (length t - at) (drop at t)

    -- the line and what counts of it, which comes to a step and buffers
    module _ (whole counted : List ℕ) (m : whole ≡ take (before_of 10 part) part) (j : counted ≡ take (content_of whole) whole) (s : Step) (b' : Buffers) (e : outcome s b' ≡ line_outcome counted y b) where
      whole_is : whole ≡ take (before_of 10 from) from
      whole_is = m ∙ ap (λ (l : List ℕ). take (before_of 10 l) l) (rest t at)

      length_is : length whole ≡ before_of 10 from
      length_is = omega (arith, ap length whole_is, length-take (before_of 10 from) from, before_few 10 from)

      pub within : at + (length whole + 1) ≤ length t + 1
      within = omega (arith, length_is, before_few 10 from, length-drop at t)

      first : outcome s b' ≡ line_outcome (take (content_of (take (before_of 10 from) from)) (take (before_of 10 from) from)) y b
      first = e ∙ ap (λ (l : List ℕ). line_outcome l y b) (j ∙ ap (λ (l : List ℕ). take (content_of l) l) whole_is)

      after : drop (suc (before_of 10 from)) from ≡ drop (at + (length whole + 1)) t
      after =
          ap (λ (i : ℕ). drop (suc i) from) (sym length_is)
          ∙ drop-drop (suc (length whole)) at t
          ∙ ap (λ (i : ℕ). drop i t) (let q : at + suc (length whole) ≡ at + (length whole + 1) = omega arith in q)

      lines_on : follow line s b' (λ y' b''. lines_reading (lines_of (drop (at + (length whole + 1)) t)) (line + 1) y' b'') ≡ lines_reading (lines_of (drop at t)) line y b
      unfolding lines_reading
      lines_on =
          rw (add-one line)
          (sym
          (ap (λ (ls : List (List ℕ)). lines_reading ls line y b) (lines_one from (omega (arith, length-drop at t)))
          ∙ ap (λ (o : Outcome). follow line o.step o.buffers (λ y' b''. lines_reading (lines_of (drop (suc (before_of 10 from)) from)) (suc line) y' b'')) (sym first)
          ∙ ap (λ (l : List ℕ). follow line s b' (λ y' b''. lines_reading (lines_of l) (suc line) y' b'')) after))

      pub lines_wrong : (w : Mistake) → s ≡ step.Wrong w → reading (Wrong line w) b' ≡ lines_reading (lines_of (drop at t)) line y b
      lines_wrong w q =
          ap (λ (z : Step). follow line z b' (λ y' b''. lines_reading (lines_of (drop (at + (length whole + 1)) t)) (line + 1) y' b'')) (sym q) ∙ lines_on

      pub lines_next : (y' : Layout) → s ≡ step.On y' → lines_reading (lines_of (drop (at + (length whole + 1)) t)) (line + 1) y' b' ≡ lines_reading (lines_of (drop at t)) line y b
      lines_next y' q =
          ap (λ (z : Step). follow line z b' (λ x b''. lines_reading (lines_of (drop (at + (length whole + 1)) t)) (line + 1) x b'')) (sym q) ∙ lines_on
