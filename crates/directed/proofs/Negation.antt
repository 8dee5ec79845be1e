-- A word with its sign flipped. Over the format. Assumes nothing.
use Rattle.std.proofs.Common.{◌≡◌, ℕ, zero, suc, ◌+◌, ◌*◌, ◌/◌, ◌%◌, ◌<◌, ◌≤◌, Bool, true, false, cond, not, eqb, leb, sym, refl, ap, ◌∙◌, arith, le-leb}
use native.Mathlib.Decide.{dec_le}
use borrow.Author.Tests.{lt-leb}
use lib.Ieee.{Float, nan, inf, Format, binary32, binary64, prec, low, odd, hid, ones, top, neg, of_bits, of_fields}

neg-odd : (d : ℕ) (s : Bool) (q k l : ℕ) → odd d (not s) q k l ≡ neg (odd d s q k l)
unfolding odd neg
neg-odd d s zero k l = refl
neg-odd d s (suc q) k l = refl

neg-cond : (b : Bool) (x y : Float) → cond b (neg x) (neg y) ≡ neg (cond b x y)
neg-cond true x y = refl
neg-cond false x y = refl

neg_special : (s b : Bool) → cond b (inf (not s)) nan ≡ neg (cond b (inf s) nan)
unfolding neg
neg_special s true = refl
neg_special s false = refl

neg_fields : (f : Format) (s : Bool) (x t : ℕ) → of_fields f (not s) x t ≡ neg (of_fields f s x t)
unfolding of_fields
neg_fields f s zero t = neg-odd (prec f) s t 0 (low f)
neg_fields f s (suc x) t =
    ap (λ (v : Float). cond (eqb (suc x) (ones f)) (cond (eqb t 0) (inf (not s)) nan) v) (neg-odd (prec f) s (hid f + t) x (low f))
    ∙ ap (λ (v : Float). cond (eqb (suc x) (ones f)) v (neg (odd (prec f) s (hid f + t) x (low f)))) (neg_special s (eqb t 0))
    ∙ neg-cond (eqb (suc x) (ones f)) (cond (eqb t 0) (inf s) nan) (odd (prec f) s (hid f + t) x (low f))

-- the fields stay, the sign turns
turned : (f : Format) (b c : ℕ) → b < 2 * top f → c ≡ (b + top f) % (2 * top f) → (c % top f ≡ b % top f) × (c % hid f ≡ b % hid f) × (top f ≤ b → c < top f) × (b < top f → top f ≤ c)
turned binary32 b c h e = omega arith
turned binary64 b c h e = omega arith

sign_turned : (f : Format) (b c : ℕ) → (top f ≤ b → c < top f) → (b < top f → top f ≤ c) → leb (top f) c ≡ not (leb (top f) b)
sign_turned f b c p q = go (dec_le (top f) b)
  where
    under : (x y : ℕ) → (x ≤ y → ⊥) → y < x
    under x y h = omega arith

    go : Dec (top f ≤ b) → leb (top f) c ≡ not (leb (top f) b)
    go (yes l) = lt-leb (top f) c (p l) ∙ sym (ap not (le-leb (top f) b l))
    go (no n) = let l : b < top f = under (top f) b n in le-leb (top f) c (q l) ∙ sym (ap not (lt-leb (top f) b l))

pub neg_word : (f : Format) (b c : ℕ) → b < 2 * top f → c ≡ (b + top f) % (2 * top f) → of_bits f c ≡ neg (of_bits f b)
unfolding of_bits
neg_word f b c h e =
    let t = turned f b c h e in
    ap (λ (s : Bool). of_fields f s (c % top f / hid f) (c % hid f)) (sign_turned f b c t.2 t.3)
    ∙ ap (λ (x : ℕ). of_fields f (not (leb (top f) b)) (x / hid f) (c % hid f)) t.0
    ∙ ap (λ (x : ℕ). of_fields f (not (leb (top f) b)) (b % top f / hid f) x) t.1
    ∙ neg_fields f (leb (top f) b) (b % top f / hid f) (b % hid f)
