-- The hash of a key, FNV-1a of 64 bits.
-- Assumes nothing.
use Rattle.std.specs.Prelude.{ℕ, ◌*◌, ◌%◌, ◌^◌, List, [], ◌∷◌, bit_xor}

-- "for each byte, exclusive-or, then multiply by 1099511628211 keeping the low 64 bits"
unfoldable pub fnv_from : ℕ → List ℕ → ℕ
fnv_from h [] = h
fnv_from h (b ∷ bs) = fnv_from (bit_xor h b * 1099511628211 % 2 ^ 64) bs

-- "start 14695981039346656037"
unfoldable pub fnv1a64 : List ℕ → ℕ
fnv1a64 s = fnv_from 14695981039346656037 s
