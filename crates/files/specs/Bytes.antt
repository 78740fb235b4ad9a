-- Little-endian numbers: read at an offset of a list of bytes, 0 past its end, and written.
use Rattle.std.specs.Prelude.{ℕ, ◌+◌, ◌*◌, ◌/◌, ◌%◌, ◌<◌, List, [], ◌∷◌, ◌++◌, get_or, set}

-- a list of bytes: what a slice of bytes holds
abbrev pub Octets : List ℕ → Type 0
Octets s = (i : ℕ) → get_or s i 0 < 256

unfoldable pub u16_at : List ℕ → ℕ → ℕ
u16_at s at = get_or s at 0 + get_or s (at + 1) 0 * 256

unfoldable pub u32_at : List ℕ → ℕ → ℕ
u32_at s at = u16_at s at + get_or s (at + 2) 0 * 65536 + get_or s (at + 3) 0 * 16777216

unfoldable pub u16_bytes : ℕ → List ℕ
u16_bytes n = n % 256 ∷ n / 256 % 256 ∷ []

unfoldable pub u32_bytes : ℕ → List ℕ
u32_bytes n = u16_bytes n ++ (n / 65536 % 256 ∷ n / 16777216 % 256 ∷ [])

-- a buffer with bytes written into it from `at` on
unfoldable pub placed : List ℕ → ℕ → List ℕ → List ℕ
placed buffer at [] = buffer
placed buffer at (x ∷ xs) = placed (set buffer at x) (at + 1) xs
