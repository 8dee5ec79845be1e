-- A cycle that can be recorded is read back and replayed, and bytes that are not refused are a cycle's record.
use Prim.Native.Nat.{ℕ, ◌+◌, ◌-◌, ◌*◌, ◌%◌, ◌^◌, ◌<◌, ◌≤◌}
use native.Mathlib.Omega.{arith}
use native.Mathlib.Nat.{mod-mod}
use mathlib.Core.Path.{◌≡◌, refl, ap, sym, ◌∙◌}
use mathlib.Core.Bool.{true, false, cond}
use mathlib.Core.List.{List, ◌++◌}
use lib.Dec.{eqb}
use lib.ListN.{length, length-drop, get_or, take, drop, take-append-drop}
use lib.Seq.{take_at, drop_at, length-take-le}
use borrow.Author.Tests.{lt-ltb, le-leb, eq-eqb}
use Rattle.machine.specs.Machine.{Sized}
use Rattle.machine.specs.Place.{before}
use Rattle.window_marks.specs.Marks.{bits_only}
use Rattle.layout.specs.State.{encode, decode, valid, Valid}
use Rattle.layout.proofs.Words.{decode-encode, encode-decode, Valid-encode, valid_facts}
use Rattle.layout.proofs.Both.{fst, snd}
use Rattle.place_marks.specs.Word.{map_in}
use Rattle.place_marks.proofs.Word.{same_map}
use Rattle.watch.specs.Watch.{Reply, limit_of, watch_reply}
use Rattle.meaning.specs.Map.{Map}
use Rattle.records.specs.Number.{numbers_of}
use Rattle.records.specs.Recorded.{Recorded, list_count, numbers_for, recorded_in, to_bytes, of_bytes, word_of_marks, marks_of_word, record_of, Writable}
use Rattle.records.proofs.Written.{numbers_written, read_back, written_sized, written_back, stated}
use Rattle.records.proofs.MarkWords.{word_of_marks_lem, marks_of_word_lem, marks_length, marks_bits}
use Rattle.records.proofs.Small.{Below, Below-take, Below-drop, writable, stated_is, numbers_Below}
use Rattle.record_refusal.specs.Refusal.{limit_in, fits, well_formed, refusal_of, Fitting}
use Rattle.replay.specs.Replay.{refused_reply, replay_reply}
use Rattle.replay.specs.Recording.{Cycle, start_of, limit_for, watch_for, bytes_for, cycle_in}
use Rattle.replay.specs.Recording.{Recordable, ReadBack, Replayed, WrittenBack}
use Rattle.record_refusal.proofs.Fields.{numbers_there, known_is, part, window_length, window_known_length, list-length}
use Rattle.record_refusal.proofs.Refusing.{limited, accepted, accepted_size}

-- the words of a machine pass the test
valid_test : (l : List ℕ) → Valid l → valid l ≡ true
unfolding valid
valid_test l v =
    rw (eq-eqb _ _ v.words, eq-eqb _ _ v.flags_only, eq-eqb _ _ v.control_only, eq-eqb _ _ v.nzcv_only, lt-ltb _ _ v.exceptions_only)

module _ (x : Cycle) (r : Recordable x) where
  abbrev y : Recorded
  y = record_of (encode x.machine) x.known x.window x.marks x.base x.list

  places : length (encode x.machine) ≡ before
  places = (Valid-encode x.machine r.sized).words

  can : Writable y
  can =
      writable (encode x.machine) x.window x.marks x.list x.known x.base places r.marked r.words r.window_words
      r.window_marks r.based r.list_words r.listed r.stated

  read : of_bytes (bytes_for x) ≡ y
  read = read_back y can

  -- the parts of its values and marks
  values_first : take before (encode x.machine ++ x.window) ≡ encode x.machine
  values_first = take_at (encode x.machine) x.window before places

  values_rest : drop before (encode x.machine ++ x.window) ≡ x.window
  values_rest = drop_at (encode x.machine) x.window before places

  marks_first : take before (marks_of_word before x.known ++ x.marks) ≡ marks_of_word before x.known
  marks_first = take_at (marks_of_word before x.known) x.marks before (marks_length before x.known)

  marks_rest : drop before (marks_of_word before x.known ++ x.marks) ≡ x.marks
  marks_rest = drop_at (marks_of_word before x.known) x.marks before (marks_length before x.known)

  machine_back : decode false (encode x.machine) ≡ x.machine
  machine_back = ap (λ (t : _). decode t (encode x.machine)) (sym r.arm) ∙ decode-encode x.machine r.sized

  pub ReadBack-cycle : ReadBack x
  ReadBack-cycle = rw (read, values_first, values_rest, marks_first, marks_rest, machine_back, word_of_marks_lem before x.known)

  map_back : map_in (x.known % 2 ^ before) x.marks ≡ map_in x.known x.marks
  map_back = same_map (x.known % 2 ^ before) x.known x.marks (mod-mod x.known (2 ^ before))

  -- ---- no refusal of its own: 9 and 10

  words_is : get_or (numbers_of (bytes_for x)) 1 0 ≡ before + length x.window
  words_is =
      ap (λ (l : List ℕ). get_or l 1 0) (numbers_written (numbers_for y) can.numbers)
      ∙ (stated y can.marked can.listed ∙ stated_is (encode x.machine) x.window x.marks x.list x.known x.base places r.marked)

  fitted : (words marks : ℕ) → words ≡ length x.window → marks ≡ length x.window → fits (bytes_for x) words marks ≡ true
  unfolding fits
  fitted words marks p q =
      let n = length x.window in
      let a : before ≤ before + n = omega arith in
      let b : words ≡ before + n - before = omega arith in
      let c : marks ≡ before + n - before = omega arith in
      rw (written_sized y can, words_is, le-leb before (before + n) a, eq-eqb words (before + n - before) b, eq-eqb marks (before + n - before) c)

  formed : well_formed (of_bytes (bytes_for x)) ≡ true
  unfolding well_formed
  formed = rw (read, values_first, marks_first, valid_test (encode x.machine) (Valid-encode x.machine r.sized), marks_bits before x.known)

  limit_back : limit_in (of_bytes (bytes_for x)) ≡ limit_for x
  limit_back = ap limit_for ReadBack-cycle ∙ ap (λ (μ : Map). limit_of x.base x.list (start_of x) μ) map_back

  watch_back : watch_for (cycle_in (bytes_for x)) ≡ watch_for x
  watch_back = ap watch_for ReadBack-cycle ∙ ap (λ (μ : Map). watch_reply x.base x.list (start_of x) μ) map_back

  pub replayed : Replayed x
  unfolding replay_reply
  replayed window marks p q =
      let e = fitted (length window) (length marks) p q in
      let n = sym (limited (bytes_for x) (length window) (length marks) e formed) ∙ limit_back in
      ap (λ (k : ℕ). cond (eqb k 0) (watch_for (cycle_in (bytes_for x))) (refused_reply k window marks)) n
      ∙ ap (λ (a : Reply). cond (eqb (limit_for x) 0) a (refused_reply (limit_for x) window marks)) watch_back

-- ---- bytes that are not refused

module _ (b : List ℕ) (small : Below 256 b) (words marks : ℕ) (e : refusal_of b words marks ≡ 0) where
  abbrev z : Recorded
  z = of_bytes b

  f : Fitting b words
  f = (accepted b words marks e).fitting

  abbrev l : List ℕ
  l = numbers_of b

  below : Below (2 ^ 32) l
  below = numbers_Below b small

  part_Below : (k n : ℕ) → Below (2 ^ 32) (take k (drop n l))
  part_Below k n = Below-take (2 ^ 32) k (drop n l) (Below-drop (2 ^ 32) n l below)

  values-Below : Below (2 ^ 32) z.values
  unfolding recorded_in
  values-Below = part_Below (get_or l 1 0) 2

  marks-Below : Below (2 ^ 32) z.marks
  unfolding recorded_in
  marks-Below = part_Below (get_or l 1 0) (2 + get_or l 1 0)

  base_below : z.base < 2 ^ 32
  unfolding recorded_in
  base_below = below (2 + 2 * get_or l 1 0)

  list-Below : Below (2 ^ 32) z.list
  unfolding recorded_in
  list-Below = part_Below (list_count l) (3 + 2 * get_or l 1 0)

  Valid-words : Valid (take before z.values)
  unfolding well_formed
  Valid-words = valid_facts (take before z.values) (fst (valid (take before z.values)) _ (accepted b words marks e).formed)

  known_bits : bits_only (take before z.marks) ≡ true
  unfolding well_formed
  known_bits = snd (valid (take before z.values)) _ (accepted b words marks e).formed

  known_length : length (take before z.marks) ≡ before
  known_length = ap length (known_is b words f) ∙ part b words f (55 + words) before (omega (arith, numbers_there b words f))

  machine_words : encode (decode false (take before z.values)) ≡ take before z.values
  machine_words = encode-decode false (take before z.values) Valid-words (Below-take (2 ^ 32) before z.values values-Below 51)

  known_marks : marks_of_word before (word_of_marks (take before z.marks)) ≡ take before z.marks
  known_marks =
      ap (λ (n : ℕ). marks_of_word n (word_of_marks (take before z.marks))) (sym known_length) ∙ marks_of_word_lem (take before z.marks) known_bits

  record_is : record_of (encode (decode false (take before z.values))) (word_of_marks (take before z.marks)) (drop before z.values)
      (drop before z.marks) z.base z.list ≡ z
  record_is = rw (machine_words, known_marks, take-append-drop before z.values, take-append-drop before z.marks)

  pub is_record : bytes_for (cycle_in b) ≡ b
  is_record = ap to_bytes record_is ∙ written_back b (accepted_size b words marks e) small

  machine_Sized : Sized (decode false (take before z.values))
  unfolding decode
  machine_Sized =
      let n = Valid-words.words in
      record {
        s = length-take-le 32 (take before z.values) (omega (arith, n));
        r = length-take-le 16 (drop 32 (take before z.values)) (rw (length-drop 32 (take before z.values)) (omega (arith, n)));
      }

  machine_arm : (decode false (take before z.values)).thumb ≡ false
  unfolding decode
  machine_arm = refl

  pub is_Recordable : Recordable (cycle_in b)
  is_Recordable =
      record {
        sized = machine_Sized;
        arm = machine_arm;
        marked = window_known_length b words f ∙ sym (window_length b words f);
        words = rw machine_words (Below-take (2 ^ 32) before z.values values-Below);
        window_words = Below-drop (2 ^ 32) before z.values values-Below;
        window_marks = Below-drop (2 ^ 32) before z.marks marks-Below;
        based = base_below;
        list_words = list-Below;
        listed = rw (list-length b words f) (omega arith);
        stated = rw (window_length b words f, ← f.stated) (below 1);
      }

pub WrittenBack-cycle : (b : List ℕ) → WrittenBack b
WrittenBack-cycle b small words marks e = (is_Recordable b small words marks e, is_record b small words marks e)
