-- An occurrence of which one of each list is to hold: its clauses stand.
use Rattle.std.proofs.Common.{◌≡◌, Bool, true, not, List, [], ◌∷◌, ◌++◌, map, refl, ap, sym, subst}
use Rattle.std.proofs.Common.{◌∙◌, Any}
use Rattle.std.specs.List.{All, Contains, filter}
use Rattle.std.proofs.lemmas.List.{map-append}
use Rattle.std.proofs.lemmas.List.Elements.{All-append, All-cons, All-head, All-nil}
use Rattle.std.proofs.lemmas.List.Elements.{All-weaker}
use Rattle.std.proofs.lemmas.List.Elements.{Contains-append_left, Contains-append_right}
use Rattle.esc_term.specs.Model.{Model}
use Rattle.esc_cover.specs.Laws.{HoldsIn}
use Rattle.esc_clause.specs.ClauseContext.{Clause, items_left, left_in, new_clause, new_member}
use Rattle.esc_clause.specs.Expansion.{OneOfEach, clauses_in, clauses_of, expanded}
use Rattle.esc_clause.specs.Laws.{ExpansionIsSo, ExpansionIsSound, IsSo}
use Rattle.esc_clause.specs.declared.member.Member.{Member}
use Rattle.esc_clause.specs.declared.occurrence.Occurrence.{Occurrence}
use Rattle.esc_book.specs.Book.{IsLiveOccurrence}
use Rattle.esc_sharing.proofs.Lists.{All-each}
use Rattle.esc_live.specs.Expanded.{IsKept}
use Rattle.esc_live.specs.Expanded.IsExpanded.{split}
use Rattle.esc_live.specs.Promises.{IsGiven, IsMade, IsSharedOn, IsSoundIn, WasExpanded}
use Rattle.esc_live.specs.StandingInside.{AddsClauses, AreSoIn, IsStanding, Reaches, Steps}
use Rattle.esc_live.specs.StandingInside.{WithClauses}
use Rattle.esc_live.specs.View.{classes_on, literals_on, logged}
use Rattle.esc_live.specs.declared.branch.LiveBranch.{LiveBranch}
use Rattle.esc_live.proofs.Reaching.{steps_nothing}
use Rattle.esc_live.proofs.StaysExpanded.{expanded_stays}

items_new : (c : List Occurrence) → items_left (new_clause c) ≡ c
items_new [] = refl
items_new (x ∷ xs) = ap (λ ys. x ∷ ys) (items_new xs)

lists_new : (cs : List (List Occurrence)) → map items_left (map new_clause cs) ≡ cs
lists_new [] = refl
lists_new (c ∷ cs) = ap (λ d. d ∷ map items_left (map new_clause cs)) (items_new c)
    ∙ ap (λ ds. c ∷ ds) (lists_new cs)

abbrev each_item : Occurrence → Bool
each_item item = true

all_items : (c : List Occurrence) → c ≡ filter each_item c
all_items [] = refl
all_items (x ∷ xs) = ap (λ ys. x ∷ ys) (all_items xs)

module _ (v : LiveBranch) (more : List Clause) where
  abbrev pub behind : LiveBranch
  behind = record v { clauses = record v.clauses { clauses = v.clauses.clauses ++ more } }

  -- but for clauses all is as it was
  pub shared_behind : IsSharedOn v → IsSharedOn behind
  shared_behind is = record {
    shared = is.shared;
    play = is.play;
    asserted = is.asserted;
    asks = is.asks;
    consistent = is.consistent;
    literals_are = is.literals_are;
    occur = is.occur;
  }

  pub made_behind : (c : List Occurrence) → IsMade v c → IsMade behind c
  made_behind c made = record {
    part = made.part;
    live = made.live;
    whole = made.whole;
    made = made.made;
    test = made.test;
    left = made.left;
  }

  given_behind : IsGiven v → IsGiven behind
  given_behind given = record { sound = given.sound; given = given.given }

  steps_behind : IsGiven v → Steps v behind
  steps_behind given =
      let same = steps_nothing v given in
      record {
        book = refl;
        literals = same.literals;
        decisions = refl;
        given = given_behind given;
        means = same.means;
        limit = refl;
      }

pub steps_added : (v w : LiveBranch) → IsGiven v → AddsClauses v w → Steps v w
steps_added v w given adds = subst (Steps v) (sym adds.rest) (steps_behind v adds.more given)

module _ (law : ExpansionIsSound) (v : LiveBranch) (standing : IsStanding v) (at : Occurrence)
    (live : IsLiveOccurrence v.book at) (cs : List (List Occurrence))
    (expands : expanded (logged v) at ≡ OneOfEach cs) where
  abbrev grown : LiveBranch
  grown = behind v (map new_clause cs)

  left_is : left_in grown.clauses ≡ left_in v.clauses ++ cs
  left_is = map-append items_left v.clauses.clauses (map new_clause cs)
      ∙ ap (λ ds. left_in v.clauses ++ ds) (lists_new cs)

  made_new : (c : List Occurrence) → Contains cs c → IsMade grown c
  made_new c h = record {
    part = at;
    live = live;
    whole = c;
    made = subst (λ ds. Contains ds c) (sym (ap clauses_in expands)) h;
    test = each_item;
    left = all_items c;
  }

  standing_grown : IsStanding grown
  standing_grown = record {
    closed = standing.closed;
    book = standing.book;
    shared = shared_behind v (map new_clause cs) standing.shared;
    clauses = subst (All (IsMade grown)) (sym left_is)
        (All-append (IsMade grown) (left_in v.clauses) cs
        (All-weaker (IsMade v) (IsMade grown) (made_behind v (map new_clause cs)) (left_in v.clauses)
        standing.clauses)
        (All-each (IsMade grown) cs made_new));
  }

  kept_new : (c : List Occurrence) → Contains cs c → IsKept (left_in grown.clauses) c
  kept_new c h = record {
    test = each_item;
    left = subst (λ ds. Contains ds (filter each_item c)) (sym left_is)
        (Contains-append_right (left_in v.clauses) cs (filter each_item c)
        (subst (Contains cs) (all_items c) h));
  }

  sound_grown : (M : Model) → AreSoIn M v (at ∷ []) → IsSoundIn M grown
  sound_grown M so = record {
    literals = so.branch.literals;
    decisions = so.branch.decisions;
    clauses = subst (All (Any (IsSo (HoldsIn M) (logged v)))) (sym left_is)
        (All-append (Any (IsSo (HoldsIn M) (logged v))) (left_in v.clauses) cs so.branch.clauses
        (subst (ExpansionIsSo (HoldsIn M) (logged v)) expands
        (law M (logged v) at (so_at M so))));
  }
    where
      so_at : (N : Model) → AreSoIn N v (at ∷ []) → IsSo (HoldsIn N) (logged v) at
      so_at N h = All-head (IsSo (HoldsIn N) (logged v)) at [] h.each

  reaches_grown : Reaches v grown (at ∷ [])
  reaches_grown = record {
    standing = standing_grown;
    expanded = All-cons (WasExpanded grown) at [] (split at cs expands kept_new)
        (All-nil (WasExpanded grown));
    stays = expanded_stays (logged v) (literals_on v) (literals_on v) (classes_on v) (classes_on v)
        (left_in v.clauses) (left_in grown.clauses) (λ other h. h)
        (λ c h. subst (λ ds. Contains ds c) (sym left_is)
        (Contains-append_left (left_in v.clauses) cs c h));
    sound = sound_grown;
  }

  pub reaches_clauses : (w : LiveBranch) → WithClauses v w cs → Reaches v w (at ∷ [])
  reaches_clauses w is = subst (λ x. Reaches v x (at ∷ [])) (sym is) reaches_grown
