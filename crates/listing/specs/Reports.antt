-- What a report prints, and whether it is a refusal.
use Rattle.std.specs.Prelude.{ℕ, Bool, true, false, List, string_bytes}
use Rattle.listing.specs.declared.list.Report.{Report}
use Rattle.listing.specs.declared.list.Report.TheVariants.{Listing, Refusal}

-- The text that is printed for a report.
abbrev pub report_text : Report → List ℕ
report_text (Listing text) = string_bytes text
report_text (Refusal text) = string_bytes text

-- Whether a report is the line of a refusal.
abbrev pub is_refusal : Report → Bool
is_refusal (Listing text) = false
is_refusal (Refusal text) = true
