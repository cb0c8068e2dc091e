-- What a fact is drawn from, by its parts.
use Rattle.std.proofs.Common.{◌≡◌, ℕ, ◌<◌, List, [], ◌∷◌, length, map, Some, None, refl}
use Rattle.std.proofs.Common.{ap, sym, ◌∙◌, true≢false}
use Rattle.std.specs.Prelude.{IsSome, Option, slice_get}
use Rattle.std.specs.Option.{option_and_then, option_map}
use Rattle.std.proofs.lemmas.Option.{slice_get_within}
use Rattle.esc_term.specs.declared.term.Head.TheVariants.{Name}
use Rattle.esc_term.specs.declared.term.Term.{Term}
use Rattle.esc_term.specs.declared.term.Term.TheVariants as term
use Rattle.esc_term.proofs.Parts.{apart_Num, args_of_same, head_of_same}
use Rattle.esc_nodes.specs.Nodes.{shape_at}
use Rattle.esc_nodes.specs.Terms.{term_of}
use Rattle.esc_nodes.specs.declared.top.Top.{Top}
use Rattle.esc_nodes.specs.declared.top.Top.TheVariants.{Num, App}
use Rattle.esc_nodes.proofs.Tops.{term_of-App, term_of-Num}
use Rattle.esc_egraph.specs.Graph.{Graph, IsGraph}
use Rattle.esc_fact.specs.Base.{Quantified, quantified_in}
use Rattle.esc_fact.specs.Fact.{IsFact, closed_at, instance_of, skolem_of, store}
use Rattle.esc_fact.specs.declared.base.Base.{Base}
use Rattle.esc_fact.specs.declared.fact.Fact.TheVariants as fact
use Rattle.esc_maps.specs.Maps.{IsWrite}
use Rattle.esc_rounds.specs.Branch.{closed_with, formula_kept}
use Rattle.esc_rounds.specs.declared.kept.Kept.{Kept}

-- ---- writes

three : (f : ℕ → Term) (xs : List ℕ) (a b c : Term) → map f xs ≡ a ∷ b ∷ c ∷ []
    → (m i x : ℕ) × (xs ≡ m ∷ i ∷ x ∷ [])
three f [] a b c e = cc
three f (m ∷ []) a b c e = cc
three f (m ∷ i ∷ []) a b c e = cc
three f (m ∷ i ∷ x ∷ []) a b c e = (m, i, x, refl)
three f (m ∷ i ∷ x ∷ y ∷ ys) a b c e = cc

pub is_write : (g : Graph) (w : ℕ) (m i x : Term) → IsGraph g → w < length g.nodes
    → term_of g.nodes w ≡ store m i x → IsWrite g w
is_write g w m i x graph l e = go (shape_at g.nodes w).top refl
  where
    go : (t : Top) → (shape_at g.nodes w).top ≡ t → IsWrite g w
    go (Num v) is =
        absurd (apart_Num v (Name (record { 0 = 2 })) (m ∷ i ∷ x ∷ [])
        (sym (term_of-Num g.nodes w v graph.terms l is) ∙ e))
    go (App head) is =
        let same : term.App head (map (term_of g.nodes) (shape_at g.nodes w).args)
        ≡ store m i x = sym (term_of-App g.nodes w head graph.terms l is) ∙ e in
        let name : head ≡ Name (record { 0 = 2 }) =
        head_of_same head (Name (record { 0 = 2 }))
        (map (term_of g.nodes) (shape_at g.nodes w).args) (m ∷ i ∷ x ∷ []) same in
        let args = three (term_of g.nodes) (shape_at g.nodes w).args m i x
        (args_of_same head (Name (record { 0 = 2 }))
        (map (term_of g.nodes) (shape_at g.nodes w).args) (m ∷ i ∷ x ∷ []) same) in (
          args.0,
          args.1,
          args.2,
          ap (λ t. record { top = t; args = (shape_at g.nodes w).args }) (is ∙ ap App name)
              ∙ ap (λ xs. record { top = App (Name (record { 0 = 2 })); args = xs }) args.3,
        )

-- ---- formulas

module _ (base : Base) (kept : List Kept) where
  is_there : (n f : ℕ) (us : List Term) → ((q : Quantified) × (slice_get (quantified_in base) n
      ≡ Some q)) → option_and_then (formula_kept base) (slice_get kept f) ≡ closed_with base n us
      → f < length kept
  is_there n f us q e = go (slice_get kept f) refl
    where
      go : (o : Option Kept) → slice_get kept f ≡ o → f < length kept
      go (Some k) is = slice_get_within kept f k is
      go None is =
          let none : None ≡ Some (closed_at q.0 us) =
          sym (ap (option_and_then (formula_kept base)) is)
          ∙ (e ∙ ap (option_map (λ x. closed_at x us)) q.1) in
          cc

  pub skolem_there : (n f : ℕ) (us : List Term) → IsFact base (fact.Skolem n us)
      → option_and_then (formula_kept base) (slice_get kept f) ≡ closed_with base n us
      → f < length kept
  skolem_there n f us is e = is_there n f us (go (slice_get (quantified_in base) n) is.named) e
    where
      go : (o : Option Quantified) → IsSome (option_map (λ q. skolem_of n q us) o)
          → (q : Quantified) × (o ≡ Some q)
      go (Some q) some = (q, refl)
      go None some = absurd (true≢false (sym some))

  pub instance_there : (n f : ℕ) (us ts : List Term) → IsFact base (fact.Inst n us ts)
      → option_and_then (formula_kept base) (slice_get kept f) ≡ closed_with base n us
      → f < length kept
  instance_there n f us ts is e =
      is_there n f us (go (slice_get (quantified_in base) n) is.named) e
    where
      go : (o : Option Quantified) → IsSome (option_map (λ q. instance_of q us ts) o)
          → (q : Quantified) × (o ≡ Some q)
      go (Some q) some = (q, refl)
      go None some = absurd (true≢false (sym some))
