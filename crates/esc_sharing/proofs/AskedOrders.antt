-- What literals by their nodes ask of assignments.
use Rattle.std.proofs.Common.{◌≡◌, ℕ, true, false, [], ◌∷◌, Ok, refl}
use Rattle.std.proofs.lemmas.List.Elements.{All-nil}
use Rattle.esc_term.specs.declared.formula.Formula.TheViews.{out-Formula}
use Rattle.esc_cover.specs.Assignment.{asked, gap}
use Rattle.esc_egraph.specs.Graph.{Graph}
use Rattle.esc_egraph.specs.declared.state.State.TheVariants.{Open}
use Rattle.esc_simplex.specs.MakingInside.{IsUp}
use Rattle.esc_simplex.specs.View.{Allows, IsSimplex}
use Rattle.esc_simplex.specs.declared.simplex.Simplex.{Simplex}
use Rattle.esc_simplex.proofs.Points.{sample_allowed}
use Rattle.esc_sharing.specs.Admitted.{RestrictEnds}
use Rattle.esc_sharing.specs.Literals.{item_of}
use Rattle.esc_sharing.specs.Nodes.{node_term}
use Rattle.esc_sharing.specs.declared.literal.Lit.TheVariants.{Equal, Apart, Below, AtMost}

module _ (g : Graph) (a b : ℕ) where
  pub asked_equal : asked (item_of g (Equal a b)) ≡ []
  unfolding out-Formula denote.Hole.Carrier.out
  asked_equal = refl

  pub asked_apart : asked (item_of g (Apart a b)) ≡ []
  unfolding out-Formula denote.Hole.Carrier.out
  asked_apart = refl

  pub asked_below : asked (item_of g (Below a b)) ≡ gap (node_term g b) (node_term g a) true ∷ []
  unfolding out-Formula denote.Hole.Carrier.out
  asked_below = refl

  pub asked_at_most : asked (item_of g (AtMost a b))
      ≡ gap (node_term g b) (node_term g a) false ∷ []
  unfolding out-Formula denote.Hole.Carrier.out
  asked_at_most = refl

-- an assignment is allowed
pub nothing_restricted : (v : Simplex) → IsSimplex v
    → RestrictEnds (Allows v) (Allows v) [] (Ok Open)
nothing_restricted v h =
    let found = sample_allowed v h in (
      λ x. (λ allowed. (allowed, All-nil (λ f. IsUp f x)), λ both. both.0),
      (found.0, found.1, All-nil (λ f. IsUp f found.0)),
    )
