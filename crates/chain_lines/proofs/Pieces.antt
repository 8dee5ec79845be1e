-- A chain is printed piece by piece: its first item, the later ones in their order, and the end.
use Prim.Native.Nat.{ℕ, zero, suc, ◌+◌, ◌*◌}
use native.Mathlib.Omega.{arith}
use mathlib.Core.Path.{◌≡◌, refl}
use mathlib.Core.List.{List, [], ◌∷◌, ◌++◌, append_assoc}
use lib.ListN.{length, get_or}
use Rattle.chain_lines.specs.Chain.{separator_text, link_text, links_text, chain_text, end_text, later_text, joined, Printed}

same_pieces : (n : ℕ) (f g : ℕ → List ℕ) → ((k : ℕ) → f k ≡ g k) → joined n f ≡ joined n g
unfolding joined
same_pieces zero f g e = refl
same_pieces (suc n) f g e = rw (e 0, same_pieces n (λ k. f (suc k)) (λ k. g (suc k)) (λ k. e (suc k)))

-- the item of pair k, where j items stand before the first pair
item : List ℕ → ℕ → List ℕ → ℕ → List ℕ
item words j pairs k = separator_text (j + k) ++ link_text words (get_or pairs (2 * k) 0) (get_or pairs (2 * k + 1) 0)

item_next : (words : List ℕ) (j i p : ℕ) (pairs : List ℕ) (k : ℕ) → item words (j + 1) pairs k ≡ item words j (i ∷ p ∷ pairs) (suc k)
unfolding item
item_next words j i p pairs k =
    let a : j + suc k ≡ j + 1 + k = omega arith in
    let b : 2 * suc k ≡ suc (suc (2 * k)) = omega arith in
    let d : suc (suc (2 * k)) + 1 ≡ suc (suc (2 * k + 1)) = omega arith in
    rw (a, b, d)

items : (n j : ℕ) (words pairs : List ℕ) → length pairs ≡ 2 * n → links_text j words pairs ≡ joined n (item words j pairs) ++ end_text
unfolding links_text joined item
items zero j words [] e = refl
items zero j words (i ∷ pairs) e = absurd (omega arith)
items (suc n) j words [] e = absurd (omega arith)
items (suc n) j words (i ∷ []) e = absurd (omega arith)
items (suc n) j words (i ∷ p ∷ pairs) e =
    let z : j + 0 ≡ j = omega arith in
    rw (items n (j + 1) words pairs (omega arith), same_pieces n (item words (j + 1) pairs) (λ k. item words j (i ∷ p ∷ pairs) (suc k)) (item_next words j i p pairs)) (simp (append_assoc, z))

pub printed : Printed
unfolding chain_text later_text item
printed n first pairs words e =
    rw (items n 1 words pairs e, same_pieces n (item words 1 pairs) (later_text words pairs) (λ k. let h : 1 + k ≡ k + 1 = omega arith in rw h))
