-- The lines of a listing, one after another, why every wire of a kept column has one, and that they list the longest histories.
use Rattle.std.proofs.Common.{◌≡◌, ℕ, suc, ◌+◌, ◌<◌, ◌≤◌, Bool, false, cond, List, [], ◌∷◌, ◌++◌, length, get_or, drop, Some, None, sym, refl, ap, ◌∙◌, subst, add-zero, zero-add, add-one, arith}
use Rattle.std.proofs.lemmas.List.{append_assoc, at_drop_more}
use Rattle.std.proofs.lemmas.Bool.{lt-leb, le-ltb}
use Rattle.algebras.specs.Transient.{Transient, word, zero_word}
use Rattle.nets.specs.declared.fault.NetFault.TheVariants.{NoSuchWire, ShortColumn}
use Rattle.nets.specs.Faults.{first_fault}
use Rattle.nets.specs.Placing.{question_checks}
use Rattle.nets.specs.Wires.{Plain, Lower}
use Rattle.nets.specs.Transients.{transient, transients}
use Rattle.nets.proofs.LongestHistories.{transient_longest}
use Rattle.nets.proofs.Wiring.{length_transients}
use Rattle.listing.specs.Listing.{ListsLongest, LongestLines, net_text, wire_line, wire_lines}

-- One line more.
pub lines_more : (cap w : ℕ) (ts : List Transient) (text text' whole : List ℕ) → w < length ts → text' ≡ text ++ wire_line cap w (get_or ts w zero_word)
    → text ++ wire_lines cap w (drop w ts) ≡ whole → text' ++ wire_lines cap (w + 1) (drop (w + 1) ts) ≡ whole
lines_more cap w ts text text' whole within written left =
    ap (λ x. x ++ wire_lines cap (w + 1) (drop (w + 1) ts)) written
    ∙ append_assoc text (wire_line cap w (get_or ts w zero_word)) (wire_lines cap (w + 1) (drop (w + 1) ts))
    ∙ ap (λ (n : ℕ). text ++ (wire_line cap w (get_or ts w zero_word) ++ wire_lines cap n (drop (w + 1) ts))) (add-one w)
    ∙ ap (λ x. text ++ x) (sym (at_drop_more (wire_lines cap w) ts w zero_word within))
    ∙ left

-- The lines of transients that are those of a net's wires, from wire w on, give the figures of the longest histories.
pub longest_lines : (cap : ℕ) (net : List Plain) → Lower net → (w : ℕ) (ts : List Transient)
    → ((k : ℕ) → k < length ts → get_or ts k zero_word ≡ transient net (w + k)) → LongestLines cap net w (length ts) (wire_lines cap w ts)
longest_lines cap net lower w [] same = refl
longest_lines cap net lower w (t ∷ ts) same =
    let here : t ≡ transient net w = same 0 (omega arith) ∙ ap (transient net) (add-zero w) in
    let later = λ (k : ℕ) (h : k < length ts). same (suc k) (omega arith) ∙ ap (transient net) (shift w k) in (
      wire_line cap w t,
      (wire_lines cap (suc w) ts, (refl, ((t, (transient_longest net lower w (word t) (ap word here), refl)), longest_lines cap net lower (suc w) ts later))),
    )
  where
    shift : (m k : ℕ) → m + suc k ≡ suc m + k
    shift m k = omega arith

-- The text of a net lists them.
pub text_lists : (cap : ℕ) (net : List Plain) → Lower net → ListsLongest cap net (net_text cap net)
text_lists cap net lower =
    let N : ℕ → Type 0 = λ n. LongestLines cap net 0 n (wire_lines cap 0 (transients net)) in (
      wire_lines cap 0 (transients net),
      (refl, subst N (length_transients net) (longest_lines cap net lower 0 (transients net) (λ k h. ap (transient net) (sym (zero-add k))))),
    )

-- A question about a standing wire passes its checks where the column is long enough.
pub question_passes : (n long w : ℕ) → w < n → n ≤ long → first_fault (question_checks n long w) ≡ None
question_passes n long w stands enough = go (lt-leb n w stands) (le-ltb long n enough)
  where
    go : {a b : Bool} → a ≡ false → b ≡ false → cond a (Some NoSuchWire) (cond b (Some ShortColumn) None) ≡ None
    go {a} {b} p q = rw (p, q)
