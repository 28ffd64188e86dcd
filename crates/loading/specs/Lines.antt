-- What is taken of an input, where the bytes that it has left are known.
use Rattle.std.specs.Prelude.{◌≡◌, ◌≢◌, ℕ, List, [], ◌∷◌, Option, Some, None, All, take, slice_range}
use Rattle.loading.specs.declared.lines.Bytes.{Bytes}
use Rattle.std.specs.Io.KnownBytes.{Keeps, Consumes, prepend_known}

-- the bytes that are left: those that were read and not taken, and then what the source has
abbrev pub left : {R : Type 0} → (R → Option (List ℕ)) → Bytes R → Option (List ℕ)
left remaining bytes = prepend_known (slice_range bytes.chunk bytes.at bytes.end) (remaining bytes.source)

-- a byte was taken from the front, or none and all are still there
abbrev pub Takes : Option (List ℕ) → Option ℕ → Option (List ℕ) → Type 0
Takes before None after = Keeps before after
Takes before (Some byte) after = Consumes before after (byte ∷ [])

-- of an input these bytes were taken, no newline among them; the line is the first ones of them, as many as there is room for
pub record Begun (room : ℕ) (before after : Option (List ℕ)) (line : List ℕ) : Type 0 where
  pub all : List ℕ
  pub front : Consumes before after all
  pub no_newline : All (λ b. b ≢ 10) all
  pub given : line ≡ take room all

-- the input begins with such bytes
pub record Begins (room : ℕ) (input : Option (List ℕ)) (line : List ℕ) : Type 0 where
  pub rest : Option (List ℕ)
  pub begun : Begun room input rest line
