-- One merge more, by the classes.
use Rattle.std.proofs.Common.{◌≡◌, ℕ, ◌<◌, List, [], ◌∷◌, ◌++◌, ◌⊎◌, inl, inr, length, All, sym, ◌∙◌, arith}
use Rattle.std.proofs.lemmas.Bool.Decides.{nat_tests}
use Rattle.std.proofs.lemmas.List.Elements.{All-get_or}
use Rattle.esc_nodes.specs.Nodes.{Shape}
use Rattle.esc_union.specs.Merges.{SameClass, moved, class_number}
use Rattle.esc_union.proofs.Numbers.{class_number-more}
use Rattle.esc_egraph.specs.Congruence.{AreAlike, Meets}

-- two numbers meet only where they were one, or were those that are made one
pub moved_meet : (a b x y : ℕ) → moved a b x ≡ moved a b y → (x ≡ y)
    ⊎ (((x ≡ a) ⊎ (x ≡ b)) × ((y ≡ a) ⊎ (y ≡ b)))
moved_meet a b x y e = grind (arith, nat_tests)

module _ (nodes : List Shape) (ms : List (ℕ × ℕ)) (m : ℕ × ℕ) (rest : ℕ → ℕ) (al : m.0
    < length nodes) (bl : m.1 < length nodes)
    (meets : Meets nodes (SameClass (class_number ms)) rest) (pair : SameClass rest m.0 m.1) where
  near : (x : ℕ) → x < length nodes → (SameClass (class_number ms) x m.0)
      ⊎ (SameClass (class_number ms) x m.1) → SameClass rest x m.0
  near x xl (inl e) = meets x m.0 xl al e
  near x xl (inr e) = meets x m.1 xl bl e ∙ sym pair

  within : (x y : ℕ) → x < length nodes → y < length nodes →
      (SameClass (class_number ms) x y)
      ⊎ (((SameClass (class_number ms) x m.0) ⊎ (SameClass (class_number ms) x m.1))
      × ((SameClass (class_number ms) y m.0) ⊎ (SameClass (class_number ms) y m.1))) →
      SameClass rest x y
  within x y xl yl (inl e) = meets x y xl yl e
  within x y xl yl (inr (p, q)) = near x xl p ∙ sym (near y yl q)

  -- classes that are coarser and have the pair in one are coarser than the merged ones
  pub merged_within : Meets nodes (SameClass (class_number (ms ++ (m ∷ [])))) rest
  merged_within x y xl yl e =
      within x y xl yl (moved_meet (class_number ms m.0) (class_number ms m.1) (class_number ms x)
      (class_number ms y)
      (sym (class_number-more ms m x) ∙ (e ∙ class_number-more ms m y)))

-- terms that are alike stay so in coarser classes
pub alike_within : (count : ℕ) (number rest : ℕ → ℕ) (s t : Shape) →
    ((a b : ℕ) → a < count → b < count → SameClass number a b → SameClass rest a b) →
    All (λ a. a < count) s.args → All (λ a. a < count) t.args → AreAlike number s t
    → AreAlike rest s t
alike_within count number rest s t meets s_in t_in alike = record {
  top = alike.top;
  args = record {
    lengths = alike.args.lengths;
    places = λ k l. meets _ _ (All-get_or (λ a. a < count) s.args k 0 l s_in)
        (All-get_or (λ a. a < count) t.args k 0 (omega (arith, l, alike.args.lengths)) t_in)
        (alike.args.places k l);
  };
}

pub alike_back : (number : ℕ → ℕ) (s t : Shape) → AreAlike number s t → AreAlike number t s
alike_back number s t alike = record {
  top = sym alike.top;
  args = record {
    lengths = sym alike.args.lengths;
    places = λ k l. sym (alike.args.places k (omega (arith, l, alike.args.lengths)));
  };
}

pub alike_on : (number : ℕ → ℕ) (s t u : Shape) → AreAlike number s t → AreAlike number t u
    → AreAlike number s u
alike_on number s t u a b = record {
  top = a.top ∙ b.top;
  args = record {
    lengths = a.args.lengths ∙ b.args.lengths;
    places = λ k l. a.args.places k l ∙ b.args.places k (omega (arith, l, a.args.lengths));
  };
}
