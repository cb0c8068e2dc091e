-- The newest batch of a list.
use Rattle.std.proofs.Common.{◌≡◌, ℕ, ◌-◌, List, [], ◌∷◌, ◌++◌, length, reverse, get_or, slice_set}
use Rattle.std.proofs.Common.{sym, ap, ap₂, ◌∙◌, arith}
use Rattle.std.proofs.lemmas.List.{get_or_push, length_push, reverse-append, set_at}
use Rattle.std.proofs.lemmas.List.{reverse-reverse}
use Rattle.esc_session.specs.declared.batch.Batch.{Batch}
use Rattle.esc_session.specs.declared.batch.Standing.{Standing}

-- with another standing
abbrev pub standing_so : Batch → Standing → Batch
standing_so b standing = record {
  first = b.first;
  predicate = b.predicate;
  standing = standing;
}

pub newest_set : (bs older : List Batch) (b n : Batch) (standing : Standing) (len : ℕ)
    → len ≡ length bs → bs ≡ older ++ b ∷ [] → n ≡ get_or bs (len - 1) n
    → slice_set bs (len - 1) (standing_so n standing) ≡ older ++ standing_so b standing ∷ []
newest_set bs older b n standing len len_is is newest =
    let last : len - 1 ≡ length older =
    omega (arith, len_is, ap length is, length_push older b) in
    let same : n ≡ b =
    newest ∙ (ap (λ xs. get_or xs (len - 1) n) is ∙ get_or_push older b n (len - 1) (sym last)) in
    ap₂ (λ (xs : List Batch) (one : Batch). slice_set xs (len - 1) (standing_so one standing)) is
    same
    ∙ set_at older b [] (standing_so b standing) (len - 1) (sym last)

pub newest_first_is : (older : List Batch) (b : Batch)
    → reverse (older ++ b ∷ []) ≡ b ∷ reverse older
newest_first_is older b = reverse-append older (b ∷ [])

head_same : (b c : Batch) (bs cs : List Batch) → b ∷ bs ≡ c ∷ cs → b ≡ c
head_same b c bs cs e = cc

tail_same : (b c : Batch) (bs cs : List Batch) → b ∷ bs ≡ c ∷ cs → bs ≡ cs
tail_same b c bs cs e = cc

module _ (xs ys : List Batch) (b c : Batch) (is : xs ++ b ∷ [] ≡ ys ++ c ∷ []) where
  reversed : b ∷ reverse xs ≡ c ∷ reverse ys
  reversed = sym (newest_first_is xs b) ∙ (ap reverse is ∙ newest_first_is ys c)

  pub newest_same : b ≡ c
  newest_same = head_same b c (reverse xs) (reverse ys) reversed

  pub older_same : xs ≡ ys
  older_same =
      sym (reverse-reverse xs)
      ∙ (ap reverse (tail_same b c (reverse xs) (reverse ys) reversed) ∙ reverse-reverse ys)
