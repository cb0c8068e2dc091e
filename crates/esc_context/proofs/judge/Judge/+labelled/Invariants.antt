use Rattle.std.proofs.Common.{◌≡◌, take}
use Rattle.std.specs.List.{flat_map, list_all, list_any}
use Rattle.esc_context.specs.JudgingInside.{Labels, cover_by, labels_by}
use Rattle.esc_context.proofs.judge.Judge.+labelled.Given as goal

abbrev pub invariant-labelled_all-parts : goal.invariant-labelled_all-parts
invariant-labelled_all-parts l = record {
  holds : l.said.holds ≡ list_all (λ f. (cover_by l.fn.self f).holds) (take l.part-index l.parts);
  fails : l.said.fails ≡ list_any (λ f. (cover_by l.fn.self f).fails) (take l.part-index l.parts);
  told : Labels l.fn.labels.items l.labels.items
      (flat_map (labels_by l.fn.self) (take l.part-index l.parts));
}

abbrev pub invariant-labelled_any-parts : goal.invariant-labelled_any-parts
invariant-labelled_any-parts l = record {
  holds : l.said.holds ≡ list_any (λ f. (cover_by l.fn.self f).holds) (take l.part-index l.parts);
  fails : l.said.fails ≡ list_all (λ f. (cover_by l.fn.self f).fails) (take l.part-index l.parts);
  told : Labels l.fn.labels.items l.labels.items
      (flat_map (labels_by l.fn.self) (take l.part-index l.parts));
}
