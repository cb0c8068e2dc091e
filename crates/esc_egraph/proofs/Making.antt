-- What making a node gives.
use Rattle.std.proofs.Common.{◌≡◌, ℕ, ◌<◌, List, [], ◌∷◌, ◌++◌, ◌⊎◌, length, All, refl, ap}
use Rattle.std.proofs.lemmas.List.Elements.{All-nil}
use Rattle.esc_union.specs.Merges.{class_number}
use Rattle.esc_nodes.specs.Nodes.{Shape, shape, shape_at}
use Rattle.esc_nodes.specs.declared.top.Top.{Top}
use Rattle.esc_nodes.specs.declared.top.Top.TheVariants.{Num, App}
use Rattle.esc_egraph.specs.Graph.{Graph, IsGraph, number_of}
use Rattle.esc_egraph.specs.Congruence.{IsMet, IsMade}
use Rattle.esc_egraph.proofs.Made.{IsExtended, made_is_least}
use Rattle.esc_egraph.proofs.Broken.{IsMet-made}

-- a shape is its top and its arguments
pub shape_parts : (top : Top) (given args : List ℕ) → args ≡ (shape top given).args →
    (let s : Shape = record { top = top; args = args } in s) ≡ shape top given
shape_parts (Num n) given args e = ap (λ rest. record { top = Num n; args = rest }) e
shape_parts (App head) given args e = ap (λ rest. record { top = App head; args = rest }) e

shape_bare : (top : Top) (given : List ℕ) → shape (shape top given).top (shape top given).args
    ≡ shape top given
shape_bare (Num n) given = refl
shape_bare (App head) given = refl

shape_args : (top : Top) (given : List ℕ) (n : ℕ) → All (λ a. a < n) given
    → All (λ a. a < n) (shape top given).args
shape_args (Num m) given n given_in = All-nil (λ a. a < n)
shape_args (App head) given n given_in = given_in

module _ (old new : Graph) (top : Top) (given : List ℕ) (merges : List (ℕ × ℕ)) (is : IsGraph old)
    (met : IsMet old)
    (given_in : All (λ a. a < length old.nodes) given)
    (absent : (k : ℕ) → k < length old.nodes → shape_at old.nodes k ≡ shape top given → ⊥)
    (ext : IsExtended old.nodes (number_of old) (class_number merges) (shape top given))
    (grown : new ≡ record old { nodes = old.nodes ++ (shape top given ∷ []); merges = merges })
  where
    pub is_made : (node : ℕ) → node ≡ length old.nodes →
        ((merges ≡ old.merges) ⊎ ((k : ℕ) × (k < length old.nodes)
        × (merges ≡ old.merges ++ ((length old.nodes, k) ∷ [])))) →
        IsMade old new (shape top given) node
    is_made node last how =
        rw grown (record {
          absent = absent;
          last = last;
          nodes = refl;
          merges = rw last how;
          kept = ext.kept;
          least = made_is_least old.nodes is.terms (number_of old) (class_number merges) met.closed
              (shape top given)
              (shape_args top given (length old.nodes) given_in) ext;
          forbidden = refl;
        })

    pub is_met : IsMet new
    is_met =
        rw grown (IsMet-made old is met (shape top given) merges
        (shape_args top given (length old.nodes) given_in)
        (shape_bare top given) absent ext)
