-- What makes the facts of a round is met.
use Rattle.std.proofs.Common.{◌≡◌, ℕ, ℤ, ◌-◌, ◌<◌, inl, inr, true, IsTrue, List, [], ◌∷◌, length}
use Rattle.std.proofs.Common.{get_or, map, reverse, refl, ap, sym, subst, ◌∙◌, arith, suc}
use Rattle.std.proofs.Common.{if◌then◌else◌}
use Rattle.std.specs.Prelude.{nat_lt}
use Rattle.std.specs.List.{All, Contains, flat_map, list_all}
use Rattle.std.specs.Option.{option_map_or}
use Rattle.std.proofs.lemmas.Bool.{le-ltb, ltb-true}
use Rattle.std.proofs.lemmas.Bool.Decides.{Decides-int_eq}
use Rattle.std.proofs.lemmas.List.{get_or-map, get_or-reverse, length-map}
use Rattle.std.proofs.lemmas.List.Elements.{All-cons, All-get_or, All-nil, All-weaker}
use Rattle.std.proofs.lemmas.List.Elements.{Contains-append_left, Contains-append_right}
use Rattle.std.proofs.lemmas.List.Elements.{Contains-get_or}
use Rattle.esc_term.specs.declared.term.Head.{Head}
use Rattle.esc_term.specs.declared.term.Head.TheVariants.{Name}
use Rattle.esc_term.specs.declared.term.Term.{Term}
use Rattle.esc_term.specs.declared.term.Term.TheVariants.{Var, App}
use Rattle.esc_term.specs.declared.formula.Formula.{Formula}
use Rattle.esc_term.specs.declared.formula.Formula.TheVariants.{Eq}
use Rattle.esc_term.specs.Interpretation.{truth}
use Rattle.esc_term.specs.Model.{Model, applied, read_in, value_in}
use Rattle.esc_term.specs.Refuted.{AllTrue}
use Rattle.esc_term.specs.Term.{binding, substituted_term}
use Rattle.esc_term.proofs.Members.{Contains-here, Contains-later}
use Rattle.esc_term.proofs.Models.{Follows-from_models, Follows-in_models, value_in-App}
use Rattle.esc_term.proofs.TermLevels.{substituted_term-App, substituted_term-Num}
use Rattle.esc_term.proofs.TermLevels.{substituted_term-Var}
use Rattle.esc_term.proofs.TruthLevels.{truth-Eq}
use Rattle.esc_cover.proofs.TestLemmas.{all_at, and_right}
use Rattle.esc_nodes.specs.Nodes.{Shape, shape_at}
use Rattle.esc_nodes.specs.Terms.{term_of}
use Rattle.esc_nodes.proofs.Tops.{term_of-App, term_of-Num}
use Rattle.esc_nodes.specs.declared.top.Top.TheVariants as top
use Rattle.esc_union.specs.Merges.{SameClass}
use Rattle.esc_egraph.specs.Congruence.{AllSame}
use Rattle.esc_egraph.specs.Graph.{Graph, IsGraph, number_of}
use Rattle.esc_trigger.specs.Laws.{is_trigger}
use Rattle.esc_trigger.specs.Variables.{variables_of}
use Rattle.esc_trigger.proofs.TermLevels.{variables_of-App, variables_of-Var}
use Rattle.esc_fact.specs.Fact.{select}
use Rattle.esc_match.specs.Match.{Match, MatchAll, TriggerMatch}
use Rattle.esc_match.specs.Match as fits
use Rattle.esc_match.specs.Matches.{class_in}
use Rattle.esc_match.proofs.Growth.{args_there}
use Rattle.esc_match.proofs.Orders.{Contains-map}
use Rattle.esc_maps.specs.Chosen.{StandsForClass}
use Rattle.esc_maps.specs.Maps.{AreAlikeWrites, IsReadAt, IsWrite, read_of}
use Rattle.esc_maps.specs.declared.map_match.MapMatch.TheVariants as map_match
use Rattle.esc_rounds.specs.Called.{CalledAt}
use Rattle.esc_rounds.specs.Facts.{argument}
use Rattle.esc_rounds.specs.Laws.{RoundsAreMet}
use Rattle.esc_rounds.specs.Makers.{AreMet, ClassesFollow, IsMet, makers_of, triggers_at}
use Rattle.esc_rounds.specs.Standing.{IsReady, Standing}
use Rattle.esc_rounds.specs.declared.draw.Draw.{Draw}
use Rattle.esc_rounds.specs.declared.draw.Draw.TheVariants.{Witness, Map, Instance}
use Rattle.esc_rounds.specs.declared.kept.Kept.{Kept}
use Rattle.esc_rounds.proofs.LegalRounds.{get-within, trigger_at}

equal_values : (M : Model) (t u : Term) → truth (read_in M) (Eq t u) ≡ true
    → value_in M t ≡ value_in M u
equal_values M t u e =
    (Decides-int_eq (value_in M t) (value_in M u)).0 (sym (truth-Eq (read_in M) t u) ∙ e)

equation_true : (M : Model) (t u : Term) → value_in M t ≡ value_in M u
    → truth (read_in M) (Eq t u) ≡ true
equation_true M t u e =
    truth-Eq (read_in M) t u ∙ (Decides-int_eq (value_in M t) (value_in M u)).1 e

module _ (g : Graph) (graph : IsGraph g) (known : List Formula) (follow : ClassesFollow g known)
  where
    abbrev term : ℕ → Term
    term n = term_of g.nodes n

    abbrev There : ℕ → Type 0
    There n = n < length g.nodes

    -- a term is met by the node that has its value in each model
    met_by : (t : Term) (n : ℕ) → There n
        → ((M : Model) → AllTrue (read_in M) known → value_in M t ≡ value_in M (term n))
        → IsMet g known t
    met_by t n l same = (
      n,
      l,
      Follows-from_models known (Eq t (term n))
          (λ M all. equation_true M t (term n) (same M all)),
    )

    module _ (M : Model) (all : AllTrue (read_in M) known) where
      same_value : (a b : ℕ) → There a → There b → SameClass (number_of g) a b
          → value_in M (term a) ≡ value_in M (term b)
      same_value a b la lb same =
          equal_values M (term a) (term b)
          (Follows-in_models known (Eq (term a) (term b)) (follow a b la lb same) M all)

      app_value : (n : ℕ) (head : Head) → There n
          → term n ≡ App head (map term (shape_at g.nodes n).args)
          → value_in M (term n)
          ≡ applied M head (map (value_in M) (map term (shape_at g.nodes n).args))
      app_value n head l is =
          ap (value_in M) is ∙ value_in-App M head (map term (shape_at g.nodes n).args)

      -- ---- what matches has the value of what it matches

      module _ (ns : List ℕ) (there : All There ns) where
        abbrev terms : List Term
        terms = map term ns

        abbrev IsBelow : List ℕ → Type 0
        IsBelow ks = (k : ℕ) → Contains ks k → k < length ns

        bound_term : (k : ℕ) → k < length ns
            → substituted_term terms 0 (Var k) ≡ term (get_or (reverse ns) k 0)
        bound_term k l =
            let many : length terms ≡ length ns = length-map ns term in
            substituted_term-Var terms 0 k
            ∙ (ap (λ b. if b then Var k else binding terms (k - 0) (Var k)) (le-ltb k 0 (omega
            arith))
            ∙ (ap (λ i. binding terms i (Var k)) (omega arith)
            ∙ (get_or-reverse terms k (Var k) (omega (arith, many, l))
            ∙ (ap (λ n. get_or terms (n - 1 - k) (Var k)) many
            ∙ (get_or-map term ns (length ns - 1 - k) 0 (Var k) (omega (arith, l))
            ∙ ap term (sym (get_or-reverse ns k 0 l)))))))

        member_there : (k : ℕ) → k < length ns → There (get_or (reverse ns) k 0)
        member_there k l =
            subst There (sym (get_or-reverse ns k 0 l))
            (All-get_or There ns (length ns - 1 - k) 0 (omega (arith, l)) there)

        mutual
          one_value : (p : Term) (n : ℕ) (matched : List ℕ) → Match g (class_in g ns) p n matched
              → There n → IsBelow (variables_of p)
              → value_in M (substituted_term terms 0 p) ≡ value_in M (term n)
          one_value p n matched (fits.variable _ _ _ k is same e) l below =
              let low : k < length ns =
              below k (subst (λ ks. Contains ks k) (sym (ap variables_of is ∙ variables_of-Var k))
              (Contains-here k [])) in
              ap (λ t. value_in M (substituted_term terms 0 t)) is
              ∙ (ap (value_in M) (bound_term k low)
              ∙ sym (same_value n (get_or (reverse ns) k 0) l (member_there k low) same))
          one_value p n matched (fits.numeral _ _ _ v node is in_range topped same e) l below =
              ap (λ t. value_in M (substituted_term terms 0 t)) is
              ∙ (ap (value_in M) (substituted_term-Num terms 0 v
              ∙ sym (term_of-Num g.nodes node v graph.terms in_range topped))
              ∙ same_value node n in_range l same)
          one_value p n matched (fits.application _ _ _ head ps node inside is in_range topped same
              args e) l below =
              ap (λ t. value_in M (substituted_term terms 0 t)) is
              ∙ (ap (value_in M) (substituted_term-App terms 0 head ps)
              ∙ (value_in-App M head (map (substituted_term terms 0) ps)
              ∙ (ap (applied M head)
              (all_values ps (shape_at g.nodes node).args inside args
              (args_there g graph node in_range)
              (λ k c. below k (subst (λ ks. Contains ks k)
              (sym (ap variables_of is ∙ variables_of-App head ps)) c)))
              ∙ (sym (app_value node head in_range
              (term_of-App g.nodes node head graph.terms in_range topped))
              ∙ same_value node n in_range l same))))

          all_values : (ps : List Term) (ms matched : List ℕ)
              → MatchAll g (class_in g ns) ps ms matched
              → ((n : ℕ) → Contains ms n → There n) → IsBelow (flat_map variables_of ps)
              → map (value_in M) (map (substituted_term terms 0) ps)
              ≡ map (value_in M) (map term ms)
          all_values ps ms matched (fits.none _ _ _ is at e) within below =
              ap (λ qs. map (value_in M) (map (substituted_term terms 0) qs)) is
              ∙ sym (ap (λ qs. map (value_in M) (map term qs)) at)
          all_values ps ms matched (fits.more _ _ _ q qs node nodes first rest is at one others e)
              within below =
              let head : value_in M (substituted_term terms 0 q) ≡ value_in M (term node) =
              one_value q node first one
              (within node (subst (λ xs. Contains xs node) (sym at) (Contains-here node nodes)))
              (λ k c. below k (subst (λ us. Contains (flat_map variables_of us) k) (sym is)
              (Contains-append_left (variables_of q) (flat_map variables_of qs) k c))) in
              let tail : map (value_in M) (map (substituted_term terms 0) qs)
              ≡ map (value_in M) (map term nodes) =
              all_values qs nodes rest others
              (λ n c. within n (subst (λ xs. Contains xs n) (sym at) (Contains-later node nodes n
              c)))
              (λ k c. below k (subst (λ us. Contains (flat_map variables_of us) k) (sym is)
              (Contains-append_right (variables_of q) (flat_map variables_of qs) k c))) in
              ap (λ us. map (value_in M) (map (substituted_term terms 0) us)) is
              ∙ (ap (λ v. v ∷ map (value_in M) (map (substituted_term terms 0) qs)) head
              ∙ (ap (λ vs. value_in M (term node) ∷ vs) tail
              ∙ sym (ap (λ us. map (value_in M) (map term us)) at)))

    -- ---- triggers

    all_met : (ns : List ℕ) (there : All There ns) (ps : List Term) (ms matched : List ℕ)
        → MatchAll g (class_in g ns) ps ms matched → ((n : ℕ) → Contains ms n → There n)
        → ((k : ℕ) → Contains (flat_map variables_of ps) k → k < length ns)
        → All (IsMet g known) (map (substituted_term (map term ns) 0) ps)
    all_met ns there ps ms matched (fits.none _ _ _ is at e) within below =
        subst (λ qs. All (IsMet g known) (map (substituted_term (map term ns) 0) qs)) (sym is)
        (All-nil (IsMet g known))
    all_met ns there ps ms matched (fits.more _ _ _ q qs node nodes first rest is at one others e)
        within below =
        let l : There node =
        within node (subst (λ xs. Contains xs node) (sym at) (Contains-here node nodes)) in
        subst (λ us. All (IsMet g known) (map (substituted_term (map term ns) 0) us)) (sym is)
        (All-cons (IsMet g known) (substituted_term (map term ns) 0 q)
        (map (substituted_term (map term ns) 0) qs)
        (met_by (substituted_term (map term ns) 0 q) node l
        (λ M all. one_value M all ns there q node first one l
        (λ k c. below k (subst (λ us. Contains (flat_map variables_of us) k) (sym is)
        (Contains-append_left (variables_of q) (flat_map variables_of qs) k c)))))
        (all_met ns there qs nodes rest others
        (λ n c. within n (subst (λ xs. Contains xs n) (sym at) (Contains-later node nodes n c)))
        (λ k c. below k (subst (λ us. Contains (flat_map variables_of us) k) (sym is)
        (Contains-append_right (variables_of q) (flat_map variables_of qs) k c)))))

    trigger_met : (count : ℕ) (trigger : List Term) (ns matched : List ℕ) → All There ns
        → IsTrue (is_trigger count trigger) → length ns ≡ count
        → TriggerMatch g (class_in g ns) trigger matched
        → All (IsMet g known) (map (substituted_term (map term ns) 0) trigger)
    trigger_met count trigger ns matched there is many match =
        let low : list_all (λ v. nat_lt v count) (flat_map variables_of trigger) ≡ true =
        and_right _ (list_all (λ v. nat_lt v count) (flat_map variables_of trigger)) is in
        all_met ns there trigger match.nodes matched match.match
        (λ n c. subst There c.2 (match.there c.0 n c.1))
        (λ k c.
        let less : k < count =
        ltb-true k count (all_at (λ v. nat_lt v count) (flat_map variables_of trigger) k low c) in
        omega (arith, less, many))

    -- ---- reads of maps

    abbrev args : ℕ → List ℕ
    args n = (shape_at g.nodes n).args

    abbrev values : Model → List ℕ → List ℤ
    values M xs = map (value_in M) (map term xs)

    same_values : (M : Model) (all : AllTrue (read_in M) known) (xs ys : List ℕ)
        → ((n : ℕ) → Contains xs n → There n) → ((n : ℕ) → Contains ys n → There n)
        → AllSame (number_of g) xs ys → values M xs ≡ values M ys
    same_values M all [] [] first second same = refl
    same_values M all [] (y ∷ ys) first second same = absurd (omega (arith, same.lengths))
    same_values M all (x ∷ xs) [] first second same = absurd (omega (arith, same.lengths))
    same_values M all (x ∷ xs) (y ∷ ys) first second same =
        let head : value_in M (term x) ≡ value_in M (term y) =
        same_value M all x y (first x (Contains-here x xs)) (second y (Contains-here y ys))
        (same.places 0 (omega arith)) in
        let tail : values M xs ≡ values M ys =
        same_values M all xs ys (λ n c. first n (Contains-later x xs n c))
        (λ n c. second n (Contains-later y ys n c))
        (record {
          lengths = omega (arith, same.lengths);
          places = λ k l. same.places (suc k) (omega (arith, l));
        }) in
        cc

    node_value : (M : Model) (all : AllTrue (read_in M) known) (n : ℕ) (head : Head) → There n
        → (shape_at g.nodes n).top ≡ top.App head
        → value_in M (term n) ≡ applied M head (values M (args n))
    node_value M all n head l is =
        app_value M all n head l (term_of-App g.nodes n head graph.terms l is)

    alike_values : (M : Model) (all : AllTrue (read_in M) known) (v w : ℕ) → There v → There w
        → AreAlikeWrites g v w → IsWrite g w → value_in M (term v) ≡ value_in M (term w)
    alike_values M all v w lv lw alike write =
        let top_w = ap (λ (x : Shape). x.top) write.3 in
        node_value M all v _ lv (alike.top ∙ top_w)
        ∙ (ap (applied M (Name (record { 0 = 2 })))
        (same_values M all (args v) (args w) (args_there g graph v lv) (args_there g graph w lw)
        alike.args)
        ∙ sym (node_value M all w _ lw top_w))

    select_value : (M : Model) (t u : Term) → value_in M (select t u)
        ≡ applied M (Name (record { 0 = 1 })) (value_in M t ∷ value_in M u ∷ [])
    select_value M t u = value_in-App M (Name (record { 0 = 1 })) (t ∷ u ∷ [])

    -- the value of a map at a place is that of the node that reads it
    select_met : (t : Term) (r a p j : ℕ) → There r → There j
        → shape_at g.nodes r ≡ read_of a p → SameClass (number_of g) p j
        → ((M : Model) → AllTrue (read_in M) known → value_in M t ≡ value_in M (term a))
        → IsMet g known (select t (term j))
    select_met t r a p j lr lj is same map_is =
        met_by (select t (term j)) r lr (λ M all.
        let shape_is : args r ≡ a ∷ p ∷ [] = ap (λ (x : Shape). x.args) is in
        let lp : There p =
        args_there g graph r lr p (subst (λ xs. Contains xs p) (sym shape_is)
        (Contains-later a (p ∷ []) p (Contains-here p []))) in
        let place : value_in M (term j) ≡ value_in M (term p) = sym (same_value M all p j lp lj
        same)
        in
        let node : value_in M (term r)
        ≡ applied M (Name (record { 0 = 1 })) (value_in M (term a) ∷ value_in M (term p) ∷ []) =
        node_value M all r _ lr (ap (λ (x : Shape). x.top) is)
        ∙ ap (λ xs. applied M (Name (record { 0 = 1 })) (values M xs)) shape_is in
        select_value M t (term j)
        ∙ (ap (λ v. applied M (Name (record { 0 = 1 })) (v ∷ value_in M (term j) ∷ [])) (map_is M
        all)
        ∙ (ap (λ v. applied M (Name (record { 0 = 1 })) (value_in M (term a) ∷ v ∷ [])) place
        ∙ sym node)))

    itself_met : (n : ℕ) → There n → IsMet g known (term n)
    itself_met n l = met_by (term n) n l (λ M all. refl)

    map_there : (r a p : ℕ) → There r → shape_at g.nodes r ≡ read_of a p → There a
    map_there r a p lr is =
        args_there g graph r lr a (subst (λ xs. Contains xs a)
        (sym (ap (λ (x : Shape). x.args) is)) (Contains-here a (p ∷ [])))

    read_met : (w j : ℕ) → There w → IsWrite g w → There j → IsReadAt g w j
        → AreMet g known ((select (term w) (term j) ∷ [])
        ∷ (term w ∷ select (argument g w 0) (term j) ∷ []) ∷ [])
    read_met w j lw write lj read =
        let la : There read.map = map_there read.read read.map read.place read.read_there read.is in
        elim read.of [
          | inl same ↦ (
            0,
            select (term w) (term j) ∷ [],
            omega arith,
            refl,
            All-cons (IsMet g known) (select (term w) (term j)) []
                (select_met (term w) read.read read.map read.place j read.read_there lj read.is
                read.at
                (λ M all. sym (alike_values M all read.write w read.write_there lw read.alike write)
                ∙ same_value M all read.write read.map read.write_there la same))
                (All-nil (IsMet g known)),
          )
          | inr of ↦
              let written : args read.write ≡ of.0 ∷ of.1 ∷ of.2 ∷ [] =
              ap (λ (x : Shape). x.args) of.3 in
              let some : 0 < length (args read.write) =
              subst (λ xs. 0 < length xs) (sym written) (omega arith) in
              let first : SameClass (number_of g) of.0 (get_or (args w) 0 0) =
              ap (λ xs. number_of g (get_or xs 0 0)) (sym written)
              ∙ read.alike.args.places 0 some in
              let lm : There of.0 =
              args_there g graph read.write read.write_there of.0
              (subst (λ xs. Contains xs of.0) (sym written)
              (Contains-here of.0 (of.1 ∷ of.2 ∷ []))) in
              let l_arg : There (get_or (args w) 0 0) =
              args_there g graph w lw (get_or (args w) 0 0)
              (Contains-get_or (args w) 0 0 (subst (λ n. 0 < n) read.alike.args.lengths some)) in (
                1,
                term w ∷ select (argument g w 0) (term j) ∷ [],
                omega arith,
                refl,
                All-cons (IsMet g known) (term w) (select (argument g w 0) (term j) ∷ [])
                    (itself_met w lw)
                    (All-cons (IsMet g known) (select (argument g w 0) (term j)) []
                    (select_met (argument g w 0) read.read read.map read.place j read.read_there lj
                    read.is
                    read.at
                    (λ M all. sym (same_value M all of.0 (get_or (args w) 0 0) lm l_arg first)
                    ∙ same_value M all of.0 read.map lm la of.4))
                    (All-nil (IsMet g known))),
              )
        ]

-- ---- what is called for

module _ (s : Standing) (live : List Draw) (known : List Formula) (graph : IsGraph s.graph)
    (ready : IsReady s live) (follow : ClassesFollow s.graph known) where
  called_met : (d : Draw) (p : List ℕ) → CalledAt s d p
      → AreMet s.graph known (makers_of s.graph s.formulas d)
  called_met (Witness f) p c = (0, [], omega arith, refl, All-nil (IsMet s.graph known))
  called_met (Map (map_match.Write w)) p c = (
    0,
    term_of s.graph.nodes w ∷ [],
    omega arith,
    refl,
    All-cons (IsMet s.graph known) (term_of s.graph.nodes w) []
        (itself_met s.graph graph known follow w c.0.1.there) (All-nil (IsMet s.graph known)),
  )
  called_met (Map (map_match.Read w j)) p c =
      read_met s.graph graph known follow w j c.0.0.1.there c.0.0.0 c.0.1.there c.0.2
  called_met (Instance f ns) p c =
      let k = c.3.formula in
      let there : All (λ n. n < length s.graph.nodes) ns =
      All-weaker (StandsForClass s.graph s.depths) (λ n. n < length s.graph.nodes)
      (λ n stands. stands.there) ns c.3.stand in
      let trigger = trigger_at s live ready f k c.1 c.3.trigger c.3.is.kept c.3.numbered in
      let at = Contains-map (map (substituted_term (map (term_of s.graph.nodes) ns) 0)) k.triggers
      c.3.trigger (get-within k.triggers c.1 c.3.trigger c.3.numbered) in
      subst (AreMet s.graph known)
      (sym (ap (λ o. option_map_or (λ (x : Kept). triggers_at s.graph ns x.triggers) o [])
      c.3.is.kept)) (
        at.0,
        map (substituted_term (map (term_of s.graph.nodes) ns) 0) c.3.trigger,
        at.1,
        at.2,
        trigger_met s.graph graph known follow k.count c.3.trigger ns c.2 there trigger c.3.many
            c.3.match,
      )

pub rounds_are_met : RoundsAreMet
rounds_are_met s live limit list known graph ready round follow i d l =
    let due = (round.exact (get_or list i d)).0 (Contains-get_or list i d l) in
    called_met s live known graph ready follow (get_or list i d) due.place due.called
