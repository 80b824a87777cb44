-- How a list is filled with numbers that come one after the other, each with its place, and which part of the numbers that pass
-- they are.
-- Assumes nothing.
use Prim.Native.Nat.{ℕ, zero, suc, ◌-◌, ◌≤◌, ◌<◌}
use mathlib.Core.Bool.{Bool}
use mathlib.Core.Path.{◌≡◌, sym, ◌∙◌, ap, ap₂}
use mathlib.Core.List.{List, [], ◌∷◌, ◌++◌, map, map-append, append_assoc}
use native.Mathlib.Omega.{arith}
use lib.ListN.{length, take, drop, set, get_or, length-append, length-map, length-drop}
use lib.Seq.{drop-cons, drop-append-le, set_at, take_at}
use Rattle.std.proofs.lemmas.List.{nil_from_length}
use Rattle.listing.specs.Scan.{passing}
use Rattle.listing.proofs.Passing.{passing_front}

-- the numbers over the front of a list
abbrev pub over : List (ℕ × ℕ) → List ℕ → List ℕ
over given numbers = map (λ (p : ℕ × ℕ). p.1) given ++ drop (length given) numbers

-- one number more, written behind those that are
pub written_next :
    (given : List (ℕ × ℕ)) (x : ℕ × ℕ) (numbers now : List ℕ) → x.0 ≡ length given → length given < length numbers
    → now ≡ over given numbers → set now x.0 x.1 ≡ over (given ++ (x ∷ [])) numbers
written_next given x numbers now place room so =
    let n = length given in
    let there : length (map (λ (p : ℕ × ℕ). p.1) given) ≡ x.0 = omega (arith, length-map given (λ (p : ℕ × ℕ). p.1)) in
    let more : suc n ≡ length (given ++ (x ∷ [])) = omega (arith, length-append given (x ∷ [])) in
    ap (λ (l : List ℕ). set l x.0 x.1) (so ∙ ap (λ (l : List ℕ). map (λ (p : ℕ × ℕ). p.1) given ++ l) (drop-cons numbers n 0 room))
    ∙ set_at (map (λ (p : ℕ × ℕ). p.1) given) (get_or numbers n 0) (drop (suc n) numbers) x.1 x.0 there
    ∙ sym (append_assoc (map (λ (p : ℕ × ℕ). p.1) given) (x.1 ∷ []) (drop (suc n) numbers))
    ∙ ap₂ ◌++◌ (sym (map-append (λ (p : ℕ × ℕ). p.1) given (x ∷ [])))
    (ap (λ (k : ℕ). drop k numbers) more)

-- the numbers below n, after the skip, are the first of those below the bound, after the skip
pub written_all :
    (p : ℕ → Bool) (n bound skip count : ℕ) → n ≤ bound → length (passing n p) - skip ≡ count
    → drop skip (passing n p) ≡ take count (drop skip (passing bound p))
written_all p n bound skip zero h e = nil_from_length (drop skip (passing n p)) (length-drop skip (passing n p) ∙ e)
written_all p n bound skip (suc count) h e =
    let f = passing_front p n bound h in
    let there : length (drop skip (passing n p)) ≡ suc count = length-drop skip (passing n p) ∙ e in
    let some : skip ≤ length (passing n p) = omega arith in
    sym
    (ap (λ (l : List ℕ). take (suc count) (drop skip l)) f.1
    ∙ ap (take (suc count)) (drop-append-le skip (passing n p) f.0 some)
    ∙ take_at (drop skip (passing n p)) f.0 (suc count) there)
