-- The transient of a gate of every kind is the longest word that its output can put out.
use Rattle.std.proofs.Common.{◌≡◌, ℕ, ◌≤◌, List}
use Rattle.algebras.specs.declared.kind.Kind.{Kind}
use Rattle.algebras.specs.declared.kind.Kind.TheVariants.{Buffer, Inverter, And, Or, Xor, Nand, Nor, Xnor}
use Rattle.algebras.specs.Transient.{Transient}
use Rattle.algebras.specs.Sums.{starts, product}
use Rattle.algebras.specs.Letters.{and_of}
use Rattle.algebras.specs.Kinds.{gate_function, gate_transient}
use Rattle.algebras.specs.Hearing.{answered, LongestWordOfAGate}
use Rattle.algebras.specs.SumsLemmas.{sums_of_transients}
use Rattle.algebras.proofs.Prefixes.{Prefixes}
use Rattle.algebras.proofs.Answering.{LongestFor, answer_kept, heard_bounded, all_reached}
use Rattle.algebras.proofs.LastChanges.{first_longest, exclusive_longest, complemented_longest, exchanged_longest}
use Rattle.algebras.proofs.SumChanges.{sum_longest}

-- AND: the product.
pub product_longest : LongestFor and_of product
product_longest = exchanged_longest sum_longest sums_of_transients.product_follows

-- A gate of every kind.
pub gate_longest : (k : Kind) → LongestFor (gate_function k) (gate_transient k)
gate_longest Buffer = first_longest
gate_longest Inverter = complemented_longest first_longest
gate_longest And = product_longest
gate_longest Or = sum_longest
gate_longest Xor = exclusive_longest
gate_longest Nand = complemented_longest product_longest
gate_longest Nor = complemented_longest sum_longest
gate_longest Xnor = complemented_longest exclusive_longest

-- A gate's transient starts as its function says.
pub gate_start : (k : Kind) (xs : List Transient) → (gate_transient k xs).start ≡ gate_function k (starts xs)
gate_start k = (gate_longest k).follows.at_start

-- A gate's changes grow with what its pins have heard.
pub gate_grows : (k : Kind) {hs xs : List Transient} → Prefixes hs xs → (gate_transient k hs).changes ≤ (gate_transient k xs).changes
gate_grows k = (gate_longest k).grows

-- An output within the transient of what its pins had heard is within that of what they hear now, once it has answered.
pub gate_answer_kept : (k : Kind) {hs xs : List Transient} → Prefixes hs xs → (made : ℕ) → made ≤ (gate_transient k hs).changes
    → answered (gate_function k) xs made ≤ (gate_transient k xs).changes
gate_answer_kept k = answer_kept (gate_longest k)

-- A gate's transient is the longest word that its output can put out.
pub longest_word_of_a_gate : LongestWordOfAGate
longest_word_of_a_gate = record {
  follows = λ k. (gate_longest k).follows;
  bounded = λ k xs hs made lost h. heard_bounded (gate_longest k) h;
  reached = λ k xs. all_reached (gate_longest k) xs;
}
