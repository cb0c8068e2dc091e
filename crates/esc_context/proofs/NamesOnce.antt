-- Names of labels in order, each once, after one more label.
use Rattle.std.proofs.Common.{◌≡◌, ℕ, ◌+◌, ◌<◌, true, false, List, [], ◌∷◌, ◌++◌}
use Rattle.std.proofs.Common.{if◌then◌else◌, length, get_or, map, take, refl, ap, sym, ◌∙◌}
use Rattle.std.specs.Prelude.{◌==◌, ◌||◌}
use Rattle.std.specs.List.{fold, list_any}
use Rattle.std.proofs.lemmas.Cmp.{nat_eq_equiv}
use Rattle.std.proofs.lemmas.List.{map-append, take_more}
use Rattle.std.proofs.lemmas.List.Sums.{fold-append}
use Rattle.esc_term.specs.declared.term.Sym.{Sym}
use Rattle.esc_term.proofs.Pairs.{list_any-map}
use Rattle.esc_outcome.specs.Labels.{told_if, with_name_once}
use Rattle.esc_context.specs.JudgingInside.{told_names}
use Rattle.esc_context.specs.declared.labelled.Label.{Label}
use Rattle.esc_context.proofs.LabelsBehind.{told_names-append}

abbrev numbers : List Sym → List ℕ
numbers = map (λ name. name.0)

-- the names of the first labels, each once
abbrev pub once_of : List Label → List Sym
once_of labels = fold with_name_once [] (told_names labels)

turned : (name : Sym) (names : List Sym) → list_any (λ other. name.0 == other.0) names
    ≡ list_any (λ other. other.0 == name.0) names
turned name [] = refl
turned name (other ∷ names) =
    ap (λ b. b || list_any (λ o. name.0 == o.0) names) (nat_eq_equiv.symm name.0 other.0)
    ∙ ap (λ b. (other.0 == name.0) || b) (turned name names)

-- ---- one more name

module _ (names : List Sym) (name : Sym) (keys : List ℕ) (are : keys ≡ numbers names) where
  seen : list_any (λ key. name.0 == key) keys ≡ list_any (λ other. other.0 == name.0) names
  seen = ap (list_any (λ key. name.0 == key)) are
      ∙ (list_any-map (λ key. name.0 == key) (λ (n : Sym). n.0) names ∙ turned name names)

  pub name_new : list_any (λ key. name.0 == key) keys ≡ false
      → names ++ name ∷ [] ≡ with_name_once names name
  name_new none = sym (ap (λ b. if b then names else names ++ name ∷ []) (sym seen ∙ none))

  pub name_known : list_any (λ key. name.0 == key) keys ≡ true → names ≡ with_name_once names name
  name_known there = sym (ap (λ b. if b then names else names ++ name ∷ []) (sym seen ∙ there))

  pub keys_new : (now : List ℕ) → list_any (λ key. name.0 == key) keys ≡ false
      → now ≡ (if list_any (λ key. name.0 == key) keys then keys else keys ++ name.0 ∷ [])
      → now ≡ numbers (names ++ name ∷ [])
  keys_new now none is =
      is ∙ (ap (λ b. if b then keys else keys ++ name.0 ∷ []) none
      ∙ (ap (λ ks. ks ++ name.0 ∷ []) are
      ∙ sym (map-append (λ (n : Sym). n.0) names (name ∷ []))))

  pub keys_known : (now : List ℕ) → list_any (λ key. name.0 == key) keys ≡ true
      → now ≡ (if list_any (λ key. name.0 == key) keys then keys else keys ++ name.0 ∷ [])
      → now ≡ numbers names
  keys_known now there is =
      is ∙ (ap (λ b. if b then keys else keys ++ name.0 ∷ []) there ∙ are)

-- ---- one more label

module _ (labels : List Label) (i : ℕ) (label : Label) (l : i < length labels)
    (at : label ≡ get_or labels i label) where
  names_more : told_names (take (i + 1) labels)
      ≡ told_names (take i labels) ++ told_if label.told label.name []
  names_more =
      ap told_names (take_more labels i label l ∙ ap (λ x. take i labels ++ x ∷ []) (sym at))
      ∙ told_names-append (take i labels) (label ∷ [])

  once_more : once_of (take (i + 1) labels)
      ≡ fold with_name_once (once_of (take i labels)) (told_if label.told label.name [])
  once_more = ap (fold with_name_once []) names_more
      ∙ fold-append with_name_once [] (told_names (take i labels))
      (told_if label.told label.name [])

  pub once_told : label.told ≡ true
      → once_of (take (i + 1) labels) ≡ with_name_once (once_of (take i labels)) label.name
  once_told is = once_more
      ∙ ap (λ b. fold with_name_once (once_of (take i labels)) (told_if b label.name [])) is

  pub once_past : label.told ≡ false → once_of (take (i + 1) labels) ≡ once_of (take i labels)
  once_past is = once_more
      ∙ ap (λ b. fold with_name_once (once_of (take i labels)) (told_if b label.name [])) is
