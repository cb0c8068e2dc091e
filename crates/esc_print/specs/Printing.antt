-- What a printer does.
use Rattle.std.specs.Prelude.{◌≡◌, ℕ, List, Option, Result}
use Rattle.esc_io.specs.Putting.{Delivers}
use Rattle.esc_print.specs.declared.printer.Printer.{Printer}

-- its sink gets the text, or a front of it, and names and sink stay the printer's
pub record Prints {S T E : Type 0} (written : S → Option (List ℕ)) (faults : S → ℕ)
    (old new : Printer S) (result : Result T E) (text : List ℕ) : Type 0 where
  pub names : new.names.now ≡ old.names.now
  pub same_sink : new.sink.ghost_name ≡ old.sink.ghost_name
  pub delivers : Delivers written faults old.sink.now new.sink.now result text
