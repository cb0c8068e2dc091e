-- The least classes of terms are those of the least classes of their nodes.
use Rattle.std.proofs.Common.{◌≡◌, ℕ, suc, ◌<◌, Bool, true, List, [], ◌∷◌, length, get_or, map, All}
use Rattle.std.proofs.Common.{IsTrue, ap, sym, subst, ◌∙◌, arith}
use Rattle.std.specs.List.{AllZip, Contains}
use Rattle.std.proofs.lemmas.List.{get_or-map, length-map}
use Rattle.std.proofs.lemmas.List.Elements.{AllZip-get_or, length_all_zip}
use Rattle.esc_term.specs.declared.term.Head.{Head}
use Rattle.esc_term.specs.declared.term.Term.{Term}
use Rattle.esc_term.specs.declared.term.Term.TheVariants as term
use Rattle.esc_term.specs.declared.formula.Item.{Item}
use Rattle.esc_term.proofs.Parts.{apart_Num, args_of_same, head_of_same}
use Rattle.esc_union.specs.Merges.{SameClass}
use Rattle.esc_cover.specs.Arithmetic.{without_numbers}
use Rattle.esc_cover.specs.Least as cover
use Rattle.esc_cover.proofs.ClassLemmas.{number, number_apart, number_found, number_same}
use Rattle.esc_nodes.specs.Nodes.{AreTerms, Shape, shape_at}
use Rattle.esc_nodes.specs.Terms.{built, term_of, terms_of}
use Rattle.esc_nodes.specs.declared.top.Top.{Top}
use Rattle.esc_nodes.specs.declared.top.Top.TheVariants.{Num, App}
use Rattle.esc_nodes.proofs.NodeTerms.{terms_are_built}
use Rattle.esc_egraph.specs.Congruence.{AllSame, AreAlike, IsCongruence, IsLeast}
use Rattle.esc_egraph.specs.Graph.{Graph, IsGraph, number_of}
use Rattle.esc_node_terms.specs.Nodes.{node_count, node_term, same_in, terms_in}
use Rattle.esc_node_terms.proofs.ClassTests.{of_same_at, same_at}
use Rattle.esc_node_terms.proofs.Places.{Contains-term_of, node_of_term}

-- ---- the classes of nodes pass for a test of terms

module _ (g : Graph) (graph : IsGraph g) where
  -- a node of an application has its head and nodes of its arguments
  built_App : (top : Top) (args : List ℕ) (head : Head) (ts : List Term) →
      built (node_term g) top args ≡ term.App head ts →
      (top ≡ App head) × (map (node_term g) args ≡ ts)
  built_App (Num n) args head ts e = absurd (apart_Num n head ts e)
  built_App (App f) args head ts e = (
    ap App (head_of_same f head (map (node_term g) args) ts e),
    args_of_same f head (map (node_term g) args) ts e,
  )

  args_there : (k : ℕ) → k < node_count g →
      All (λ a. a < node_count g) (shape_at g.nodes k).args
  args_there k l i d il = omega (arith, l, graph.terms.older k l i d il)

  -- terms that pass the test place by place have nodes in one class place by place
  same_args : (xs ys : List ℕ) → All (λ a. a < node_count g) xs →
      All (λ a. a < node_count g) ys →
      AllZip (λ s t. IsTrue (same_in g s t)) (map (node_term g) xs) (map (node_term g) ys) →
      AllSame (number_of g) xs ys
  same_args xs ys xs_in ys_in zip =
      let count : length xs ≡ length ys =
      sym (length-map xs (node_term g))
      ∙ length_all_zip (λ s t. IsTrue (same_in g s t)) (map (node_term g) xs)
      (map (node_term g) ys) zip
      ∙ length-map ys (node_term g) in
      record {
        lengths = count;
        places = λ k l.
            let yl : k < length ys = omega (arith, l, count) in
            let passes : same_in g (get_or (map (node_term g) xs) k (node_term g 0))
            (get_or (map (node_term g) ys) k (node_term g 0)) ≡ true =
            AllZip-get_or (λ s t. IsTrue (same_in g s t)) (map (node_term g) xs)
            (map (node_term g) ys) k (node_term g 0) (node_term g 0) zip
            (omega (arith, l, length-map xs (node_term g))) in
            of_same_at g graph (get_or xs k 0) (get_or ys k 0) (xs_in k 0 l) (ys_in k 0 yl)
            (ap (λ s. same_in g s (node_term g (get_or ys k 0)))
            (sym (get_or-map (node_term g) xs k 0 (node_term g 0) l))
            ∙ (ap (λ t. same_in g (get_or (map (node_term g) xs) k (node_term g 0)) t)
            (sym (get_or-map (node_term g) ys k 0 (node_term g 0) yl)) ∙ passes));
      }

  pub congruence_in : IsCongruence g.nodes (number_of g) →
      (head : Head) (ss ts : List Term) → Contains (terms_in g) (term.App head ss) →
      Contains (terms_in g) (term.App head ts) →
      AllZip (λ s t. IsTrue (same_in g s t)) ss ts → same_in g (term.App head ss) (term.App head ts)
      ≡ true
  congruence_in closed head ss ts hs ht zip =
      let x = node_of_term g.nodes (term.App head ss) hs in
      let y = node_of_term g.nodes (term.App head ts) ht in
      let left = built_App (shape_at g.nodes x.0).top
      (shape_at g.nodes x.0).args head ss
      (sym (terms_are_built g.nodes graph.terms x.0 x.1) ∙ x.2) in
      let right = built_App (shape_at g.nodes y.0).top
      (shape_at g.nodes y.0).args head ts
      (sym (terms_are_built g.nodes graph.terms y.0 y.1) ∙ y.2) in
      let alike : AreAlike (number_of g) (shape_at g.nodes x.0)
      (shape_at g.nodes y.0) = record {
        top = left.0 ∙ sym right.0;
        args = same_args (shape_at g.nodes x.0).args (shape_at g.nodes y.0).args
            (args_there x.0 x.1) (args_there y.0 y.1)
            (subst (λ us. AllZip (λ s t. IsTrue (same_in g s t)) us
            (map (node_term g) (shape_at g.nodes y.0).args)) (sym left.1)
            (subst (AllZip (λ s t. IsTrue (same_in g s t)) ss) (sym right.1) zip));
      } in
      ap (λ s. same_in g s (term.App head ts)) (sym x.2)
      ∙ (ap (same_in g (node_term g x.0)) (sym y.2)
      ∙ same_at g graph x.0 y.0 x.1 y.1 (closed x.0 y.0 x.1 y.1 alike))

-- ---- a closed test of terms passes for classes of nodes

module _ (nodes : List Shape) (are : AreTerms nodes) (other : Term → Term → Bool)
    (literals : List Item)
    (closed : cover.IsCongruent other (without_numbers (terms_of nodes)) literals) where
  abbrev numbered : ℕ → ℕ
  numbered k = number other closed.equivalence (terms_of nodes) (term_of nodes k)

  one_number : (a b : ℕ) → a < length nodes → b < length nodes →
      other (term_of nodes a) (term_of nodes b) ≡ true → SameClass numbered a b
  one_number a b al bl e =
      number_same other closed.equivalence (terms_of nodes) (term_of nodes a) (term_of nodes b) e

  of_one_number : (a b : ℕ) → a < length nodes → b < length nodes → SameClass numbered a b →
      other (term_of nodes a) (term_of nodes b) ≡ true
  of_one_number a b al bl same =
      number_apart other closed.equivalence (terms_of nodes) (term_of nodes a) (term_of nodes b)
      (number_found other closed.equivalence (terms_of nodes) (term_of nodes a)
      (Contains-term_of nodes a al))
      same

  zip_args : (xs ys : List ℕ) → All (λ a. a < length nodes) xs → All (λ a. a < length nodes) ys →
      length xs ≡ length ys →
      ((k : ℕ) → k < length xs → SameClass numbered (get_or xs k 0) (get_or ys k 0)) →
      AllZip (λ s t. IsTrue (other s t)) (map (term_of nodes) xs) (map (term_of nodes) ys)
  zip_args [] [] xs_in ys_in count same = tt
  zip_args [] (y ∷ ys) xs_in ys_in count same = absurd (omega (arith, count))
  zip_args (x ∷ xs) [] xs_in ys_in count same = absurd (omega (arith, count))
  zip_args (x ∷ xs) (y ∷ ys) xs_in ys_in count same = (
    of_one_number x y (xs_in 0 0 (omega arith)) (ys_in 0 0 (omega arith)) (same 0 (omega arith)),
    zip_args xs ys (λ k d l. xs_in (suc k) d (omega (arith, l)))
        (λ k d l. ys_in (suc k) d (omega (arith, l))) (omega (arith, count))
        (λ k l. same (suc k) (omega (arith, l))),
  )

  built_same : (top : Top) (xs ys : List ℕ) → All (λ a. a < length nodes) xs →
      All (λ a. a < length nodes) ys → AllSame numbered xs ys →
      Contains (terms_of nodes) (built (term_of nodes) top xs) →
      Contains (terms_of nodes) (built (term_of nodes) top ys) →
      other (built (term_of nodes) top xs) (built (term_of nodes) top ys) ≡ true
  built_same (Num n) xs ys xs_in ys_in same hx hy = closed.equivalence.refl (term.Num n)
  built_same (App head) xs ys xs_in ys_in same hx hy =
      closed.congruence head (map (term_of nodes) xs) (map (term_of nodes) ys) hx hy
      (zip_args xs ys xs_in ys_in same.lengths same.places)

  numbers_are_closed : IsCongruence nodes numbered
  numbers_are_closed a b al bl alike =
      let within : (k : ℕ) → k < length nodes →
      All (λ x. x < length nodes) (shape_at nodes k).args =
      λ k l i d il. omega (arith, l, are.older k l i d il) in
      let left = terms_are_built nodes are a al in
      let right : term_of nodes b ≡ built (term_of nodes) (shape_at nodes a).top
      (shape_at nodes b).args =
      terms_are_built nodes are b bl ∙ ap (λ top. built (term_of nodes) top (shape_at nodes b).args)
      (sym alike.top) in
      one_number a b al bl
      (ap (λ s. other s (term_of nodes b)) left
      ∙ (ap (other (built (term_of nodes) (shape_at nodes a).top (shape_at nodes a).args)) right
      ∙ built_same (shape_at nodes a).top (shape_at nodes a).args (shape_at nodes b).args
      (within a al) (within b bl) alike.args
      (subst (Contains (terms_of nodes)) left (Contains-term_of nodes a al))
      (subst (Contains (terms_of nodes)) right (Contains-term_of nodes b bl))))

  -- the least classes are as fine as the test
  pub finest_of : (Equal : ℕ → ℕ → Type 0) (now : ℕ → ℕ) → IsLeast nodes Equal now →
      ((a b : ℕ) → a < length nodes → b < length nodes → Equal a b →
      other (term_of nodes a) (term_of nodes b) ≡ true) →
      (a b : ℕ) → a < length nodes → b < length nodes → SameClass now a b →
      other (term_of nodes a) (term_of nodes b) ≡ true
  finest_of Equal now least meets a b al bl same =
      of_one_number a b al bl
      (least.finest numbered numbers_are_closed
      (λ x y xl yl e. one_number x y xl yl (meets x y xl yl e)) a b al bl same)
