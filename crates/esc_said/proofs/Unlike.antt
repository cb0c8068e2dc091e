-- What is said of the terms at any two places, after one more place.
use Rattle.std.proofs.Common.{◌≡◌, ℕ, ◌+◌, ◌<◌, ◌≤◌, Bool, true, false, ◌&&◌, ◌||◌, List, ◌∷◌}
use Rattle.std.proofs.Common.{length, get_or, take, drop, ◌-◌, map, refl, ap, sym, ◌∙◌}
use Rattle.std.proofs.lemmas.List.{drop_all, drop_more, length-drop}
use Rattle.std.proofs.Math.Seq.{take-length}
use Rattle.std.proofs.lemmas.List.Folds.{list_all-map}
use Rattle.esc_term.specs.declared.term.Term.{Term}
use Rattle.esc_term.specs.declared.formula.Formula.TheVariants as formula
use Rattle.esc_term.specs.declared.formula.Item.{Item}
use Rattle.esc_term.proofs.Pairs.{list_any-map}
use Rattle.esc_cover.specs.Classes.{together}
use Rattle.esc_cover.specs.Cover.{cover, every_two, is_forced_apart, some_two}
use Rattle.esc_egraph.specs.Graph.{Graph}
use Rattle.esc_sharing.specs.Nodes.{classes_in, node_term}
use Rattle.esc_said.specs.SayingInside.{unlike_each}
use Rattle.esc_said.specs.Speaking.{SaysAs}
use Rattle.esc_said.proofs.SaidAs.{SaysAs-Distinct}
use Rattle.esc_said.specs.declared.said.Said.{Said}

and_nested : (a b c : Bool) → ((a && b) && c) ≡ (a && (b && c))
and_nested true b c = refl
and_nested false b c = refl

or_nested : (a b c : Bool) → ((a || b) || c) ≡ (a || (b || c))
or_nested true b c = refl
or_nested false b c = refl

pub and_true : (a : Bool) → (a && true) ≡ a
and_true true = refl
and_true false = refl

pub or_false : (a : Bool) → (a || false) ≡ a
or_false true = refl
or_false false = refl

pub rest_of : (n : ℕ) (ns : List ℕ) → take (length ns - n) (drop n ns) ≡ drop n ns
rest_of n ns = rw (← length-drop n ns) (take-length (drop n ns))

module _ (g : Graph) (nodes : List ℕ) (literals : List Item) where
  abbrev apart : Term → Term → Bool
  apart = is_forced_apart literals (classes_in g)

  abbrev one_class : Term → Term → Bool
  one_class = together (classes_in g)

  -- the terms of the nodes from a place on
  abbrev terms_from : ℕ → List Term
  terms_from place = map (node_term g) (drop place nodes)

  -- with what the terms from this place on say, what was said is what all say
  pub record SaidUpTo (said : Said) (place : ℕ) : Type 0 where
    pub holds : (said.holds && every_two apart (terms_from place))
        ≡ every_two apart (map (node_term g) nodes)
    pub fails : (said.fails || some_two one_class (terms_from place))
        ≡ some_two one_class (map (node_term g) nodes)

  module _ (before here after : Said) (i n : ℕ) (l : i < length nodes) (at : n ≡ get_or nodes i n)
      (both : after.holds ≡ (before.holds && here.holds))
      (either : after.fails ≡ (before.fails || here.fails))
      (says : SaysAs here (unlike_each literals g n (drop (i + 1) nodes))) where
    rest : terms_from i ≡ node_term g n ∷ terms_from (i + 1)
    rest = ap (map (node_term g)) (drop_more nodes i n l
        ∙ ap (λ x. x ∷ drop (i + 1) nodes) (sym at))

    all_here : every_two apart (terms_from i)
        ≡ (here.holds && every_two apart (terms_from (i + 1)))
    all_here = ap (every_two apart) rest ∙ ap (λ b. b && every_two apart (terms_from (i + 1)))
        (list_all-map (apart (node_term g n)) (node_term g) (drop (i + 1) nodes) ∙ sym says.holds)

    some_here : some_two one_class (terms_from i)
        ≡ (here.fails || some_two one_class (terms_from (i + 1)))
    some_here = ap (some_two one_class) rest
        ∙ ap (λ b. b || some_two one_class (terms_from (i + 1)))
        (list_any-map (one_class (node_term g n)) (node_term g) (drop (i + 1) nodes)
        ∙ sym says.fails)

    pub SaidUpTo-more : SaidUpTo before i → SaidUpTo after (i + 1)
    SaidUpTo-more seen = record {
      holds = ap (λ b. b && every_two apart (terms_from (i + 1))) both
          ∙ (and_nested before.holds here.holds (every_two apart (terms_from (i + 1)))
          ∙ (ap (λ b. before.holds && b) (sym all_here) ∙ seen.holds));
      fails = ap (λ b. b || some_two one_class (terms_from (i + 1))) either
          ∙ (or_nested before.fails here.fails (some_two one_class (terms_from (i + 1)))
          ∙ (ap (λ b. before.fails || b) (sym some_here) ∙ seen.fails));
    }

  pub SaidUpTo-starts : (said : Said) → said.holds ≡ true → said.fails ≡ false → SaidUpTo said 0
  SaidUpTo-starts said h f = record {
    holds = ap (λ b. b && every_two apart (map (node_term g) nodes)) h;
    fails = ap (λ b. b || some_two one_class (map (node_term g) nodes)) f;
  }

  pub SaidUpTo-ends : (said : Said) (place : ℕ) → length nodes ≤ place → SaidUpTo said place
      → SaysAs said (cover literals (classes_in g) (formula.Distinct (map (node_term g) nodes)))
  SaidUpTo-ends said place past seen =
      let none = ap (map (node_term g)) (drop_all place nodes past) in
      SaysAs-Distinct said literals (classes_in g) (map (node_term g) nodes)
      (sym (and_true said.holds) ∙ (ap (λ ts. said.holds && every_two apart ts) (sym none)
      ∙ seen.holds))
      (sym (or_false said.fails) ∙ (ap (λ ts. said.fails || some_two one_class ts) (sym none)
      ∙ seen.fails))
