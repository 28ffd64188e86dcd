-- A line with a byte more.
use Rattle.std.proofs.Common.{◌≡◌, ◌≢◌, ℕ, zero, suc, List, [], ◌∷◌, ◌++◌, Some, refl, ap, ◌∙◌, take}
use Rattle.std.proofs.KnownBytes.{Consumes-trans}
use Rattle.std.proofs.lemmas.List.Elements.{All-push}
use Rattle.std.specs.Prelude.{Option}
use Rattle.loading.specs.Lines.{Takes, Begun}

-- what is dropped once is dropped for good
cut_again : (room : ℕ) (xs ys : List ℕ) → take room (take room xs ++ ys) ≡ take room (xs ++ ys)
cut_again zero xs ys = refl
cut_again (suc n) [] ys = refl
cut_again (suc n) (x ∷ xs) ys = ap (λ (l : List ℕ). x ∷ l) (cut_again n xs ys)

pub longer : (room : ℕ) (before mid after : Option (List ℕ)) (line next : List ℕ) (byte : ℕ)
    → Begun room before mid line → Takes mid (Some byte) after → byte ≢ 10 → next ≡ take room (line ++ byte ∷ []) → Begun room before after next
longer room before mid after line next byte begun taken other is = record {
  all = begun.all ++ byte ∷ [];
  front = Consumes-trans before mid after begun.all (byte ∷ []) begun.front taken;
  no_newline = All-push (λ b. b ≢ 10) begun.all byte begun.no_newline other;
  given = is ∙ ap (λ (l : List ℕ). take room (l ++ byte ∷ [])) begun.given ∙ cut_again room begun.all (byte ∷ []);
}
