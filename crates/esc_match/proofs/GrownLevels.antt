-- How ways grow at each form of term.
use Rattle.std.proofs.Common.{◌≡◌, ℕ, ℤ, ◌==◌, Bool, true, false, if◌then◌else◌, List, [], ◌∷◌}
use Rattle.std.proofs.Common.{length, map, refl, ap, sym, ◌∙◌}
use Rattle.std.specs.Prelude.{Some, None}
use Rattle.std.specs.List.{filter, flat_map}
use Rattle.std.proofs.lemmas.Bool.{eq-eqb, ne_eqb}
use denote.Hole.Carrier.{roll}
use Rattle.esc_term.specs.declared.term.Head.{Head}
use Rattle.esc_term.specs.declared.term.Term.{Term}
use Rattle.esc_term.specs.declared.term.Term.TheVariants.{Num, Var, App}
use Rattle.esc_term.specs.declared.term.Term.TheOpen.{Term-F}
use Rattle.esc_term.specs.declared.term.Term.TheViews.{roll-Term, out-roll-Term}
use Rattle.esc_term.specs.declared.term.Term.TheFolds.{fold-roll-Term}
use Rattle.esc_nodes.specs.declared.top.Top.TheVariants as top
use Rattle.esc_egraph.specs.Graph.{Graph, number_of}
use Rattle.esc_match.specs.declared.way.Binding.{Binding}
use Rattle.esc_match.specs.declared.way.Way.{Way}
use Rattle.esc_match.specs.CandidatesInside.{class_list, has_top, numbers_below}
use Rattle.esc_match.specs.WaysInside.{grown, grown_anywhere, grown_at, grown_by_form}
use Rattle.esc_match.specs.WaysInside.{class_bound, grown_at_class, grown_by_variable, grown_if_any}
use Rattle.esc_match.specs.WaysInside.{grown_step, visited, visited_with}

pub grown-Num : (g : Graph) (v : ℤ) (n : ℕ) (w : Way) → grown g (Num v) n w
    ≡ grown_if_any (filter (has_top g (top.Num v)) (class_list g n)) n w
unfolding grown roll-Term roll
grown-Num g v n w =
    ap (λ f. f n w) (fold-roll-Term (ℕ → Way → List Way) (grown_step g) (Term-F.Num v))

pub grown-Var : (g : Graph) (k n : ℕ) (w : Way)
    → grown g (Var k) n w ≡ grown_by_variable g k n w
unfolding grown roll-Term roll
grown-Var g k n w =
    ap (λ f. f n w) (fold-roll-Term (ℕ → Way → List Way) (grown_step g) (Term-F.Var k))

pub grown-App : (g : Graph) (head : Head) (ps : List Term) (n : ℕ) (w : Way)
    → grown g (App head ps) n w
    ≡ grown_at g (map (grown g) ps) (filter (has_top g (top.App head)) (class_list g n)) w
unfolding grown roll-Term roll
grown-App g head ps n w =
    ap (λ f. f n w) (fold-roll-Term (ℕ → Way → List Way) (grown_step g) (Term-F.App head ps))

pub ruleset levels = (grown-Num, grown-Var, grown-App)

pub anywhere-Num : (g : Graph) (v : ℤ) (ws : List Way) → grown_anywhere g (Num v) ws ≡ []
unfolding roll-Term roll
anywhere-Num g v ws = ap (λ form. grown_by_form g form ws) (out-roll-Term (Term-F.Num v))

pub anywhere-Var : (g : Graph) (k : ℕ) (ws : List Way) → grown_anywhere g (Var k) ws ≡ []
unfolding roll-Term roll
anywhere-Var g k ws = ap (λ form. grown_by_form g form ws) (out-roll-Term (Term-F.Var k))

pub anywhere-App : (g : Graph) (head : Head) (ps : List Term) (ws : List Way)
    → grown_anywhere g (App head ps) ws
    ≡ flat_map (grown_at g (map (grown g) ps)
    (filter (has_top g (top.App head)) (numbers_below (length g.nodes)))) ws
unfolding roll-Term roll
anywhere-App g head ps ws =
    ap (λ form. grown_by_form g form ws) (out-roll-Term (Term-F.App head ps))

pub ruleset anywhere = (anywhere-Num, anywhere-Var, anywhere-App)

-- ---- a variable and a numeral, by what the code finds

pub variable_new : (g : Graph) (k n : ℕ) (w new : Way) (bs : List Binding) (class : ℕ)
    → bs ≡ w.bound → class_bound bs k ≡ None → class ≡ number_of g n
    → new ≡ visited_with w (record { variable = k; class = class }) n
    → new ∷ [] ≡ grown_by_variable g k n w
unfolding grown_by_variable
variable_new g k n w new bs class same none is grows =
    ap (λ v. v ∷ []) (grows
    ∙ ap (λ c. visited_with w (record { variable = k; class = c }) n) is)
    ∙ ap (grown_at_class g k n w) (sym (ap (λ cs. class_bound cs k) (sym same) ∙ none))

variable_at : (g : Graph) (k n : ℕ) (w : Way) (bs : List Binding) (c : ℕ) (b : Bool)
    → bs ≡ w.bound → class_bound bs k ≡ Some c → (c == number_of g n) ≡ b
    → (if b then visited w n ∷ [] else []) ≡ grown_by_variable g k n w
unfolding grown_by_variable
variable_at g k n w bs c b same some tested =
    ap (λ (t : Bool). if t then visited w n ∷ [] else []) (sym tested)
    ∙ ap (grown_at_class g k n w) (sym (ap (λ cs. class_bound cs k) (sym same) ∙ some))

pub variable_same : (g : Graph) (k n : ℕ) (w new : Way) (bs : List Binding) (c class : ℕ)
    → bs ≡ w.bound → class_bound bs k ≡ Some c → class ≡ number_of g n → c ≡ class
    → new ≡ visited w n → new ∷ [] ≡ grown_by_variable g k n w
variable_same g k n w new bs c class same some is equal grows =
    ap (λ v. v ∷ []) grows
    ∙ variable_at g k n w bs c true same some (eq-eqb c (number_of g n) (equal ∙ is))

pub variable_other : (g : Graph) (k n : ℕ) (w : Way) (bs : List Binding) (c class : ℕ)
    → bs ≡ w.bound → class_bound bs k ≡ Some c → class ≡ number_of g n → (c ≡ class → ⊥)
    → [] ≡ grown_by_variable g k n w
variable_other g k n w bs c class same some is apart =
    variable_at g k n w bs c false same some
    (ne_eqb c (number_of g n) (λ e. apart (e ∙ sym is)))

pub numeral_some : (g : Graph) (v : ℤ) (n : ℕ) (w new : Way) (ns : List ℕ)
    → ns ≡ filter (has_top g (top.Num v)) (class_list g n) → (ns ≡ [] → ⊥) → new ≡ visited w n
    → new ∷ [] ≡ grown g (Num v) n w
numeral_some g v n w new ns is some grows =
    ap (λ u. u ∷ []) grows
    ∙ (go ns some ∙ (ap (λ ms. grown_if_any ms n w) is ∙ sym (grown-Num g v n w)))
  where
    go : (ms : List ℕ) → (ms ≡ [] → ⊥) → visited w n ∷ [] ≡ grown_if_any ms n w
    go [] some = absurd (some refl)
    go (m ∷ ms) some = refl
