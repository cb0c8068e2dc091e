-- The facts of a round, behind those that it is of.
use Rattle.std.proofs.Common.{◌≡◌, ℕ, ◌≤◌, List, [], ◌∷◌, ◌++◌, length, map, take, drop}
use Rattle.std.proofs.Common.{refl, sym, ap, subst, ◌∙◌, arith, append_assoc}
use Rattle.std.proofs.Common.{length-append}
use Rattle.std.specs.List.{All, Contains}
use Rattle.std.proofs.lemmas.List.{get_or_append_left, take-append-drop, take-map}
use Rattle.std.proofs.Math.Seq.{take-append_seam}
use Rattle.esc_term.specs.declared.formula.Item.{Item}
use Rattle.esc_term.proofs.Members.{Contains-none}
use Rattle.esc_egraph.specs.Graph.{Graph}
use Rattle.esc_fact.specs.Depth.{Deep, deep}
use Rattle.esc_fact.specs.Fact.{IsFact}
use Rattle.esc_fact.specs.Legal.{IsLegal, first_facts}
use Rattle.esc_fact.specs.declared.base.Base.{Base}
use Rattle.esc_fact.specs.declared.fact.Fact.{Fact}
use Rattle.esc_rounds.specs.Facts.{fact_of}
use Rattle.esc_rounds.specs.Laws.{RoundsAreLegal, RoundsAreShallow}
use Rattle.esc_rounds.specs.declared.draw.Draw.{Draw}
use Rattle.esc_rounds.specs.declared.kept.Kept.{Kept}
use Rattle.esc_rounds.specs.Due.{IsRound}
use Rattle.esc_sharing.proofs.Lists.{All-append_left}
use Rattle.esc_verdict.specs.RoundLaws.{EmptyRoundIsSaturated, RoundIsWithin, RoundMayFollow}
use Rattle.esc_verdict.specs.Rounds.{IsRoundOf}

-- ---- a front of a legal list

pub legal_front : (base : Base) (xs more ys : List Fact) → xs ≡ first_facts base ++ more
    → IsLegal base (xs ++ ys) → IsLegal base xs
legal_front base xs more ys begins legal = record {
  more = more;
  begins = begins;
  differ = λ i j d before below e. legal.differ i j d before
      (omega (arith, below, length-append xs ys))
      (get_or_append_left xs ys d i (omega (arith, before, below))
      ∙ e ∙ sym (get_or_append_left xs ys d j below));
  are_facts = All-append_left (IsFact base) xs ys legal.are_facts;
  drawn = λ before after fact e. legal.drawn before (after ++ ys) fact
      (ap (λ zs. zs ++ ys) e ∙ append_assoc before (fact ∷ after) ys);
}

-- ---- the draws of the first facts

module _ (base : Base) (depth : ℕ) (facts : List Fact) (items : List Item)
    (first rest : List Fact) (r : IsRoundOf base depth facts items (first ++ rest)) where
  made : Draw → Fact
  made = fact_of r.s.graph r.s.formulas

  abbrev front : List Draw
  front = take (length first) r.drawn

  abbrev behind : List Draw
  behind = drop (length first) r.drawn

  parts : front ++ behind ≡ r.drawn
  parts = take-append-drop (length first) r.drawn

  front_is : first ≡ map (fact_of r.s.graph r.s.formulas) front
  front_is =
      sym (take-append_seam first rest) ∙ ap (take (length first)) r.facts_are
      ∙ take-map (fact_of r.s.graph r.s.formulas) (length first) r.drawn

pub may_follow : RoundsAreLegal → RoundMayFollow
may_follow law base depth facts items first rest legal r =
    let whole : IsLegal base (facts ++ (first ++ rest)) =
    subst (λ list. IsLegal base (facts ++ list)) (sym r.facts_are)
    (law base facts items r.s r.live depth r.drawn legal r.stands.standing r.stands.ready r.round)
    in
    legal_front base (facts ++ first) (legal.more ++ first) rest
    (ap (λ fs. fs ++ first) legal.begins ∙ append_assoc (first_facts base) legal.more first)
    (subst (IsLegal base) (sym (append_assoc facts first rest)) whole)

pub is_within : RoundsAreShallow → RoundIsWithin
is_within law base depth facts items first rest shallow r =
    subst (λ list. All (λ (d : Deep). d.depth ≤ depth) (deep base (facts ++ list)))
    (sym (front_is base depth facts items first rest r))
    (law base facts items r.s r.live depth (front base depth facts items first rest r)
    (behind base depth facts items first rest r) r.stands.standing r.stands.ready
    (subst (IsRound r.s r.live depth)
    (sym (parts base depth facts items first rest r)) r.round) shallow)

-- ---- no facts

none_drawn : (g : Graph) (formulas : List Kept) (ds : List Draw)
    → [] ≡ map (fact_of g formulas) ds → ds ≡ []
none_drawn g formulas [] e = refl
none_drawn g formulas (d ∷ ds) e = absurd (cc)

pub empty_is_saturated : EmptyRoundIsSaturated
empty_is_saturated base depth facts items r = record {
  s = r.s;
  live = r.live;
  stands = r.stands;
  saturated = λ d due. Contains-none d
      (subst (λ ds. Contains ds d) (none_drawn r.s.graph r.s.formulas r.drawn r.facts_are)
      ((r.round.exact d).1 due));
}
