-- A loop that gives some nodes one root.
use Rattle.std.proofs.Common.{◌≡◌, ◌≢◌, ℕ, ◌+◌, ◌<◌, ◌≤◌, List, inl, inr, length, get_or, set, All, refl, ap, sym, subst, ◌∙◌, arith, get_or-set_same, get_or-set_other, length-set}
use Rattle.std.specs.List.{Contains}
use Rattle.std.proofs.lemmas.Bool.{cases_eq, cases_lt}
use Rattle.std.proofs.lemmas.List.{get_or_default}
use Rattle.std.proofs.lemmas.List.Elements.{All-get_or}
use Rattle.esc_union.proofs.Members.{at_place}

-- the first nodes have the root, and a node that is none of them has what it had
pub record Setting (nodes old now : List ℕ) (root end : ℕ) : Type 0 where
  pub count : length now ≡ length old
  pub these : (j : ℕ) → j < end → get_or now (get_or nodes j 0) 0 ≡ root
  pub others : (k : ℕ) → ((j : ℕ) → j < end → get_or nodes j 0 ≢ k) → get_or now k 0
      ≡ get_or old k 0

pub Setting-starts : (nodes old : List ℕ) (root : ℕ) → Setting nodes old old root 0
Setting-starts nodes old root = record {
  count = refl;
  these = λ j l. absurd (omega (arith, l));
  others = λ k none. refl;
}

pub Setting-step : (nodes old now : List ℕ) (root end node : ℕ) → All (λ n. n < length old) nodes
    → end < length nodes →
    node ≡ get_or nodes end node → Setting nodes old now root end
    → Setting nodes old (set now node root) root (end + 1)
Setting-step nodes old now root end node there more read s =
    let is : node ≡ get_or nodes end 0 = read ∙ get_or_default nodes end node 0 more in
    let in_now : node < length now = omega (
      arith,
      is,
      s.count,
      All-get_or (λ n. n < length old)
          nodes end 0 more there,
    ) in
    record {
      count = length-set now node root ∙ s.count;
      these = λ j l. elim (cases_eq (get_or nodes j 0) node) [
        | inl e ↦ ap (λ i. get_or (set now node root) i 0) e
            ∙ get_or-set_same now node root 0 in_now
        | inr ne ↦
            let before : j < end = elim (cases_lt j end) [
              | inl h ↦ h
              | inr h ↦ absurd (ne (ap (λ i. get_or nodes i 0) (last j end l h)
                  ∙ sym is))
            ] in
            get_or-set_other now node (get_or nodes j 0) root 0 ne ∙ s.these j before
      ];
      others = λ k none.
          get_or-set_other now node k root 0 (λ e. none end (omega arith) (sym is ∙ sym e))
          ∙ s.others k (λ j l. none j (omega (arith, l)));
    }
  where
    last : (j end : ℕ) → j < end + 1 → end ≤ j → j ≡ end
    last j end l h = omega (arith, l, h)

module _ (nodes old now : List ℕ) (root end : ℕ) (all : length nodes
    ≤ end) (s : Setting nodes old now root end) where
  pub Setting-these : (k : ℕ) → Contains nodes k → get_or now k 0 ≡ root
  Setting-these k c =
      let at : get_or nodes c.0 0 ≡ k = get_or_default nodes c.0 0 k c.1 ∙ c.2 in
      ap (λ i. get_or now i 0) (sym at) ∙ s.these c.0 (omega (arith, all, c.1))

module _ (nodes old now : List ℕ) (root end : ℕ) (all : end ≤ length nodes)
    (s : Setting nodes old now root end) where
  pub Setting-others : (k : ℕ) → (Contains nodes k → ⊥) → get_or now k 0 ≡ get_or old k 0
  Setting-others k none = s.others k (λ j l e. none
      (subst (λ n. Contains nodes n) e (at_place nodes j (omega (arith, l, all)))))
