-- A loop that marks some nodes.
use Rattle.std.proofs.Common.{◌≡◌, ◌≢◌, ℕ, ◌+◌, ◌<◌, ◌≤◌, Bool, true, false, List, inl, inr, length}
use Rattle.std.proofs.Common.{get_or, set, All, refl, ap, sym, subst, ◌∙◌, arith, get_or-set_same}
use Rattle.std.proofs.Common.{get_or-set_other, length-set}
use Rattle.std.specs.List.{Contains}
use Rattle.std.proofs.lemmas.Bool.{cases_eq, cases_lt}
use Rattle.std.proofs.lemmas.List.{get_or_default}
use Rattle.std.proofs.lemmas.List.Elements.{All-get_or, Contains-get_or}

-- the first nodes are marked, and a node that is none of them is as it was
pub record Marking (nodes : List ℕ) (old now : List Bool) (end : ℕ) : Type 0 where
  pub count : length now ≡ length old
  pub these : (j : ℕ) → j < end → get_or now (get_or nodes j 0) false ≡ true
  pub others : (k : ℕ) → ((j : ℕ) → j < end → get_or nodes j 0 ≢ k) →
      get_or now k false ≡ get_or old k false

pub Marking-starts : (nodes : List ℕ) (old : List Bool) → Marking nodes old old 0
Marking-starts nodes old = record {
  count = refl;
  these = λ j l. absurd (omega (arith, l));
  others = λ k none. refl;
}

pub Marking-step : (nodes : List ℕ) (old now : List Bool) (end node : ℕ) →
    All (λ n. n < length old) nodes → end < length nodes →
    node ≡ get_or nodes end node → Marking nodes old now end →
    Marking nodes old (set now node true) (end + 1)
Marking-step nodes old now end node there more read s =
    let is : node ≡ get_or nodes end 0 = read ∙ get_or_default nodes end node 0 more in
    let in_now : node < length now =
    omega (arith, is, s.count, All-get_or (λ n. n < length old) nodes end 0 more there) in
    record {
      count = length-set now node true ∙ s.count;
      these = λ j l. elim (cases_eq (get_or nodes j 0) node) [
        | inl e ↦ ap (λ i. get_or (set now node true) i false) e
            ∙ get_or-set_same now node true false in_now
        | inr ne ↦
            let before : j < end =
            elim (cases_lt j end) [
              | inl h ↦ h
              | inr h ↦ absurd
                  (ne (ap (λ i. get_or nodes i 0) (last j end l h) ∙ sym is))
            ] in
            get_or-set_other now node (get_or nodes j 0) true false ne ∙ s.these j before
      ];
      others = λ k none.
          get_or-set_other now node k true false (λ e. none end (omega arith) (sym is ∙ sym e))
          ∙ s.others k (λ j l. none j (omega (arith, l)));
    }
  where
    last : (j end : ℕ) → j < end + 1 → end ≤ j → j ≡ end
    last j end l h = omega (arith, l, h)

module _ (nodes : List ℕ) (old now : List Bool) (end : ℕ) (s : Marking nodes old now end) where
  pub Marking-these : length nodes ≤ end → (k : ℕ) → Contains nodes k → get_or now k false ≡ true
  Marking-these all k c =
      let at : get_or nodes c.0 0 ≡ k = get_or_default nodes c.0 0 k c.1 ∙ c.2 in
      ap (λ i. get_or now i false) (sym at) ∙ s.these c.0 (omega (arith, all, c.1))

  pub Marking-others : end ≤ length nodes → (k : ℕ) → (Contains nodes k → ⊥) →
      get_or now k false ≡ get_or old k false
  Marking-others all k none =
      s.others k (λ j l e. none
      (subst (Contains nodes) e (Contains-get_or nodes j 0 (omega (arith, l, all)))))
