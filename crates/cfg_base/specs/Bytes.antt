-- Bytes of words and of lines. Junos OS CLI User Guide, on quoted words, wildcards and loaded lines. Which bytes are printed is this
-- project's own.
use Rattle.std.specs.Prelude.{ℕ, List, length, take, drop, slice_index, ◌-◌, ◌==◌, Bool, ◌&&◌, nat_le, if◌then◌else◌}

-- a byte that is printed: a space, or a visible character of ASCII (0x20 to 0x7E)
abbrev pub is_printing : ℕ → Bool
is_printing b = nat_le 32 b && nat_le b 126

-- the bytes that stand between the first and the last, as between quotes or angles
abbrev pub between : List ℕ → List ℕ
between bytes = take (length bytes - 2) (drop 1 bytes)

-- a line without the CR at its end, where it has one
abbrev pub without_last_cr : List ℕ → List ℕ
without_last_cr line = if slice_index line (length line - 1) == 13 then take (length line - 1) line else line
