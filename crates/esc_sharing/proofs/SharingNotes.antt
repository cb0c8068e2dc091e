-- A call on a part of a sharing, as a call on the sharing; and what steps leave that follow one
-- another.
use Rattle.std.proofs.Common.{◌≡◌, ℕ, List, [], ◌∷◌, ◌++◌, refl, sym, ap, subst, ◌∙◌, arith}
use Rattle.std.proofs.Common.{append_assoc, length-append}
use Rattle.std.proofs.lemmas.List.{append-nil}
use Rattle.std.proofs.lemmas.List.Elements.{All-append, All-nil}
use Rattle.esc_term.specs.declared.term.Term.{Term}
use Rattle.esc_trail.specs.Undo.{IsLawful, Notes, Undo}
use Rattle.esc_trail.proofs.Ends.{take-append_last}
use Rattle.esc_trail.proofs.Noting.{IsPart, notes_both, notes_nothing, notes_one, notes_within}
use Rattle.esc_egraph.specs.Graph.{Graph}
use Rattle.esc_egraph.specs.GraphUndo.{graph_undo}
use Rattle.esc_egraph.specs.declared.record.EgraphRec.{EgraphRec}
use Rattle.esc_distinct.specs.GroupsUndo.{groups_undo}
use Rattle.esc_distinct.specs.declared.record.GroupRec.{GroupRec}
use Rattle.esc_simplex.specs.Senses.{Sense}
use Rattle.esc_sharing.specs.Calls.{TellsMore}
use Rattle.esc_sharing.specs.Numbers.{AddsMade, MayStandFor, number_terms}
use Rattle.esc_sharing.specs.SettlingInside.{Keeps}
use Rattle.esc_sharing.specs.SharingUndo.{part_carried, sharing_lawful, sharing_undo}
use Rattle.esc_sharing.specs.declared.literal.Lit.{Lit}
use Rattle.esc_sharing.specs.declared.record.PartRec.{PartRec}
use Rattle.esc_sharing.specs.declared.record.PartRec.TheVariants.{Groups, Lists, Nodes, Theory}
use Rattle.esc_sharing.specs.declared.record.ShareRec.{ShareRec}
use Rattle.esc_sharing.specs.declared.record.ShareRec.TheVariants.{Asserted, Told}
use Rattle.esc_sharing.specs.declared.sharing.Sharing.{Sharing}

-- ---- lists that grow

pub made_nothing : (made : List Sense) (terms : List Term) → AddsMade made made terms
made_nothing made terms =
    record { more = []; made = sym (append-nil made); may = All-nil (MayStandFor terms) }

pub made_both : (first middle last : List Sense) (terms : List Term) → AddsMade first middle terms
    → AddsMade middle last terms → AddsMade first last terms
made_both first middle last terms a b = record {
  more = a.more ++ b.more;
  made = b.made ∙ (ap (λ made. made ++ b.more) a.made ∙ append_assoc first a.more b.more);
  may = All-append (MayStandFor terms) a.more b.more a.may b.may;
}

pub tells_nothing : (told : List (ℕ × ℕ)) → TellsMore told told
tells_nothing told = ([], sym (append-nil told))

pub tells_both : (first middle last : List (ℕ × ℕ)) → TellsMore first middle
    → TellsMore middle last → TellsMore first last
tells_both first middle last a b =
    (a.0 ++ b.0, b.1 ∙ (ap (λ told. told ++ b.0) a.1 ∙ append_assoc first a.0 b.0))

-- ---- records

module _ {T Q W : Type 0} (undo : Undo T Q) (law : IsLawful undo) (nodes : EgraphRec → W)
    (groups : GroupRec → W) (lists : ShareRec → W) (theory : Q → W) where
  abbrev whole : Undo (Sharing T) (PartRec Q)
  whole = sharing_undo undo

  abbrev carry : PartRec Q → W
  carry = part_carried nodes groups lists theory

  graph_is_part : (v : Sharing T)
      → IsPart graph_undo whole (λ (graph : Graph). record v { graph = graph }) (λ rec. Nodes rec)
  graph_is_part v = record {
    back_there = λ g rec. refl;
    can_there = λ g rec can. can;
    same_there = λ g h e. record {
      graph = e;
      groups = refl;
      asserted = refl;
      told = refl;
      theory = law.reflexive v.theory;
    };
  }

  groups_are_part : (v : Sharing T) → IsPart groups_undo whole
      (λ (groups : List (List ℕ)). record v { groups = groups }) (λ rec. Groups rec)
  groups_are_part v = record {
    back_there = λ g rec. refl;
    can_there = λ g rec can. can;
    same_there = λ g h e. record {
      graph = refl;
      groups = e;
      asserted = refl;
      told = refl;
      theory = law.reflexive v.theory;
    };
  }

  theory_is_part : (v : Sharing T)
      → IsPart undo whole (λ (theory : T). record v { theory = theory }) (λ rec. Theory rec)
  theory_is_part v = record {
    back_there = λ g rec. refl;
    can_there = λ g rec can. can;
    same_there = λ g h e. record {
      graph = refl;
      groups = refl;
      asserted = refl;
      told = refl;
      theory = e;
    };
  }

  pub graph_notes : (v : Sharing T) (before after : List W) (entry exit : Graph)
      → Notes graph_undo nodes before after entry exit
      → Notes whole carry before after (record v { graph = entry }) (record v { graph = exit })
  graph_notes v before after entry exit =
      notes_within graph_undo whole (λ (graph : Graph). record v { graph = graph })
      (λ rec. Nodes rec) (graph_is_part v) nodes carry (λ rec. refl) before after entry exit

  pub groups_note : (v : Sharing T) (before after : List W) (entry exit : List (List ℕ))
      → Notes groups_undo groups before after entry exit
      → Notes whole carry before after (record v { groups = entry }) (record v { groups = exit })
  groups_note v before after entry exit =
      notes_within groups_undo whole (λ (groups : List (List ℕ)). record v { groups = groups })
      (λ rec. Groups rec) (groups_are_part v) groups carry (λ rec. refl) before after entry exit

  pub theory_notes : (v : Sharing T) (before after : List W) (entry exit : T)
      → Notes undo theory before after entry exit
      → Notes whole carry before after (record v { theory = entry }) (record v { theory = exit })
  theory_notes v before after entry exit =
      notes_within undo whole (λ (theory : T). record v { theory = theory })
      (λ rec. Theory rec) (theory_is_part v) theory carry (λ rec. refl) before after entry exit

  same_itself : (v : Sharing T) → whole.same v v
  same_itself v = (sharing_lawful undo law).reflexive v

  pub told_notes : (before after : List W) (entry : Sharing T) (pair : ℕ × ℕ)
      → after ≡ before ++ (lists Told ∷ [])
      → Notes whole carry before after entry (record entry { told = entry.told ++ (pair ∷ []) })
  told_notes before after entry pair noted =
      notes_one whole carry before after entry
      (record entry { told = entry.told ++ (pair ∷ []) }) (Lists Told) noted
      (omega (arith, length-append entry.told (pair ∷ [])))
      (subst (λ told. whole.same (record entry { told = told }) entry)
      (sym (take-append_last entry.told pair)) (same_itself entry))

  pub asserted_notes : (before after : List W) (entry : Sharing T) (lit : Lit)
      → after ≡ before ++ (lists Asserted ∷ [])
      → Notes whole carry before after entry
      (record entry { asserted = entry.asserted ++ (lit ∷ []) })
  asserted_notes before after entry lit noted =
      notes_one whole carry before after entry
      (record entry { asserted = entry.asserted ++ (lit ∷ []) }) (Lists Asserted) noted
      (omega (arith, length-append entry.asserted (lit ∷ [])))
      (subst (λ asserted. whole.same (record entry { asserted = asserted }) entry)
      (sym (take-append_last entry.asserted lit)) (same_itself entry))

  -- ---- steps

  module _ (is_sound : T → Type 0) (numbers_of : T → List (ℕ × Term))
      (made_of : T → List Sense) where
    abbrev Kept : List Lit → List (List ℕ) → List W → List W → Sharing T → Sharing T → Type 0
    Kept lits more before after v w =
        Keeps undo carry is_sound numbers_of made_of lits more before after v w

    pub keeps_nothing : (records : List W) (v : Sharing T) → is_sound v.theory
        → Kept [] [] records records v v
    keeps_nothing records v sound = record {
      sound = sound;
      numbers = refl;
      made = made_nothing (made_of v.theory) (number_terms (numbers_of v.theory));
      asserted = sym (append-nil v.asserted);
      groups = sym (append-nil v.groups);
      told = tells_nothing v.told;
      nodes = refl;
      undo = notes_nothing whole carry records records v v refl (same_itself v);
    }

    -- a step after which nothing more is asserted
    pub keeps_then : (lits : List Lit) (more : List (List ℕ)) (first middle last : List W)
        (u v w : Sharing T) → Kept lits more first middle u v → Kept [] [] middle last v w
        → Kept lits more first last u w
    keeps_then lits more first middle last u v w a b = record {
      sound = b.sound;
      numbers = b.numbers ∙ a.numbers;
      made = made_both (made_of u.theory) (made_of v.theory) (made_of w.theory)
          (number_terms (numbers_of u.theory)) a.made
          (subst (λ numbers. AddsMade (made_of v.theory) (made_of w.theory)
          (number_terms numbers)) a.numbers b.made);
      asserted = b.asserted ∙ (append-nil v.asserted ∙ a.asserted);
      groups = b.groups ∙ (append-nil v.groups ∙ a.groups);
      told = tells_both u.told v.told w.told a.told b.told;
      nodes = b.nodes ∙ a.nodes;
      undo = notes_both whole (sharing_lawful undo law) carry first middle last u v w a.undo b.undo;
    }

    -- a pair is told
    pub keeps_told : (before after : List W) (v : Sharing T) (pair : ℕ × ℕ) → is_sound v.theory
        → after ≡ before ++ (lists Told ∷ [])
        → Kept [] [] before after v (record v { told = v.told ++ (pair ∷ []) })
    keeps_told before after v pair sound noted = record {
      sound = sound;
      numbers = refl;
      made = made_nothing (made_of v.theory) (number_terms (numbers_of v.theory));
      asserted = sym (append-nil v.asserted);
      groups = sym (append-nil v.groups);
      told = (pair ∷ [], refl);
      nodes = refl;
      undo = told_notes before after v pair noted;
    }

    -- a literal is asserted
    pub keeps_asserted : (before after : List W) (v : Sharing T) (lit : Lit) → is_sound v.theory
        → after ≡ before ++ (lists Asserted ∷ [])
        → Kept (lit ∷ []) [] before after v (record v { asserted = v.asserted ++ (lit ∷ []) })
    keeps_asserted before after v lit sound noted = record {
      sound = sound;
      numbers = refl;
      made = made_nothing (made_of v.theory) (number_terms (numbers_of v.theory));
      asserted = refl;
      groups = sym (append-nil v.groups);
      told = tells_nothing v.told;
      nodes = refl;
      undo = asserted_notes before after v lit noted;
    }

    -- the theory changes
    pub keeps_theory : (before after : List W) (v : Sharing T) (exit : T) → is_sound exit
        → numbers_of exit ≡ numbers_of v.theory
        → AddsMade (made_of v.theory) (made_of exit) (number_terms (numbers_of v.theory))
        → Notes undo theory before after v.theory exit
        → Kept [] [] before after v (record v { theory = exit })
    keeps_theory before after v exit sound numbers made notes = record {
      sound = sound;
      numbers = numbers;
      made = made;
      asserted = sym (append-nil v.asserted);
      groups = sym (append-nil v.groups);
      told = tells_nothing v.told;
      nodes = refl;
      undo = theory_notes v before after v.theory exit notes;
    }

    -- the graph changes, and its nodes stay
    pub keeps_graph : (before after : List W) (v : Sharing T) (exit : Graph) → is_sound v.theory
        → exit.nodes ≡ v.graph.nodes → Notes graph_undo nodes before after v.graph exit
        → Kept [] [] before after v (record v { graph = exit })
    keeps_graph before after v exit sound same notes = record {
      sound = sound;
      numbers = refl;
      made = made_nothing (made_of v.theory) (number_terms (numbers_of v.theory));
      asserted = sym (append-nil v.asserted);
      groups = sym (append-nil v.groups);
      told = tells_nothing v.told;
      nodes = same;
      undo = graph_notes v before after v.graph exit notes;
    }

    -- a group comes behind the others
    pub keeps_group : (before after : List W) (v : Sharing T) (group : List ℕ)
        → is_sound v.theory
        → Notes groups_undo groups before after v.groups (v.groups ++ (group ∷ []))
        → Kept [] (group ∷ []) before after v (record v { groups = v.groups ++ (group ∷ []) })
    keeps_group before after v group sound notes = record {
      sound = sound;
      numbers = refl;
      made = made_nothing (made_of v.theory) (number_terms (numbers_of v.theory));
      asserted = sym (append-nil v.asserted);
      groups = refl;
      told = tells_nothing v.told;
      nodes = refl;
      undo = groups_note v before after v.groups (v.groups ++ (group ∷ [])) notes;
    }
