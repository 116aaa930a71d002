-- Records that were written read back as the wires that they were written from.
use Rattle.std.proofs.Common.{◌≡◌, ℕ, suc, ◌+◌, ◌-◌, ◌*◌, ◌/◌, ◌%◌, ◌<◌, ◌≤◌, Bool, true, false, cond, ◌||◌, leb, List, [], ◌∷◌, ◌++◌, map, length, get_or, take, drop, is_some, Some, None, Ok, Option, unwrap_or, sym, refl, ap, ◌∙◌, subst, arith}
use Rattle.std.proofs.lemmas.List.{append_assoc, append-nil, drop_at, get_or_at, length-append, length_push, take_at}
use Rattle.std.proofs.lemmas.Bool.{lt-leb, ne_eqb}
use Rattle.algebras.specs.declared.kind.Kind.{Kind}
use Rattle.algebras.specs.declared.kind.Kind.TheVariants.{Buffer, Inverter, And, Or, Xor, Nand, Nor, Xnor}
use Rattle.algebras.specs.Kinds.{kind_number, kind_of, pins_allowed}
use Rattle.algebras.specs.Letters.{bit, or_of}
use Rattle.nets.specs.declared.fault.NetFault.TheVariants.{Full, ShortColumn}
use Rattle.nets.specs.Faults.{first_fault}
use Rattle.nets.specs.Placing.{Request, ask_input, ask_gate, asked, refusal, request_checks}
use Rattle.nets.specs.Records.{body_size, is_input, known, misread, pins_in, reading, record_length, request_of}
use Rattle.nets.specs.Wires.{Plain, input, gate, Below, Fitting, Lower, fits, pins_of}
use Rattle.nets.specs.Writing.{ReadsBack, answer_of_writing, buffer_after_writing, gate_byte, pin_bytes, record_of, records_of, writing_refusal, written_over}
use Rattle.nets.proofs.Outcomes.{reading_goes_on}
use Rattle.nets.proofs.Pinning.{allowed, gate_passes}
use Rattle.nets.proofs.Placements.{admitted, input_passes, settled_passed, unless_passed}
use Rattle.nets.proofs.Readings.{gate_request, readable, record_admitted}
use Rattle.nets.proofs.Writings.{buffer_passes, length_pins, number_small, written_front}

-- A kind has its number.
pub kind_back : (k : Kind) → kind_of (kind_number k) ≡ Some k
kind_back Buffer = refl
kind_back Inverter = refl
kind_back And = refl
kind_back Or = refl
kind_back Xor = refl
kind_back Nand = refl
kind_back Nor = refl
kind_back Xnor = refl

-- Pins from their bytes.
pub pins_back : (ps : List ℕ) → pins_in (pin_bytes ps) ≡ ps
pins_back [] = refl
pins_back (p ∷ ps) =
    let e : p % 256 + 256 * (p / 256) ≡ p = omega arith in
    ap (λ (q : ℕ). q ∷ pins_in (pin_bytes ps)) e ∙ ap (λ (qs : List ℕ). p ∷ qs) (pins_back ps)

-- What the record of a wire asks for.
abbrev pub asks : Plain → Request
asks (input start changes) = ask_input (bit start) changes
asks (gate k ps) = ask_gate (kind_number k) ps

pub asks_back : (w : Plain) → asked (asks w) ≡ w
asks_back (input false n) = refl
asks_back (input true n) = refl
asks_back (gate k ps) = ap (λ (o : Option Kind). gate (unwrap_or o Buffer) ps) (kind_back k)

-- A gate's kind byte: its halves, and that it is not an input's.
module _ (k : Kind) (ps : List ℕ) (few : pins_allowed k (length ps) ≡ true) where
  abbrev byte : ℕ
  byte = gate_byte (kind_number k) (length ps)

  pub byte_kind : byte / 16 ≡ kind_number k
  byte_kind = let h = allowed k (length ps) few in omega arith

  pub byte_pins : byte % 16 ≡ length ps
  byte_pins = let h = allowed k (length ps) few in omega arith

  pub byte_gate : byte ≡ 1 → ⊥
  byte_gate e = let h = number_small k in omega arith

  pub byte_known : known byte ≡ true
  byte_known = either (is_input byte) (is_some (kind_of (byte / 16))) (ap (λ (n : ℕ). is_some (kind_of n)) byte_kind ∙ ap is_some (kind_back k))
    where
      either : (x y : Bool) → y ≡ true → (x || y) ≡ true
      either true y e = refl
      either false y e = e

  pub byte_body : body_size byte ≡ length (pin_bytes ps)
  byte_body =
      ap (λ (b : Bool). cond b 2 (2 * (byte % 16))) (ne_eqb byte 1 byte_gate)
      ∙ ap (λ (n : ℕ). 2 * n) byte_pins
      ∙ sym (length_pins ps)

-- The record of a wire, with more bytes after it: its length, that it can be read, and what it asks for.
module _ (rest : List ℕ) where
  pub length_back : (w : Plain) → fits w ≡ true → record_length (record_of w ++ rest) ≡ length (record_of w)
  length_back (input start n) ok = refl
  length_back (gate k ps) ok = ap suc (byte_body k ps ok)

  known_back : (w : Plain) → fits w ≡ true → known (get_or (record_of w ++ rest) 0 0) ≡ true
  known_back (input start n) ok = refl
  known_back (gate k ps) ok = byte_known k ps ok

  pub readable_back : (w : Plain) → fits w ≡ true → misread (get_or (record_of w ++ rest) 0 0) (drop 1 (record_of w ++ rest)) ≡ None
  readable_back w ok =
      let e = length-append (record_of w) rest in
      readable (record_of w ++ rest) (length (record_of w)) (known_back w ok) (length_back w ok) (omega arith)

  pub request_back : (w : Plain) → fits w ≡ true → request_of (record_of w ++ rest) ≡ asks w
  request_back (input start n) ok = refl
  request_back (gate k ps) ok =
      let size = suc (length (pin_bytes ps)) in
      let less : length (pin_bytes ps) ≡ size - 1 = omega arith in
      gate_request (byte k ps ok ∷ pin_bytes ps ++ rest) size (byte_gate k ps ok) (ap suc (byte_body k ps ok))
      ∙ ap (λ (n : ℕ). ask_gate n (pins_in (take (size - 1) (pin_bytes ps ++ rest)))) (byte_kind k ps ok)
      ∙ ap (λ (qs : List ℕ). ask_gate (kind_number k) (pins_in qs)) (take_at (pin_bytes ps) rest (size - 1) less)
      ∙ ap (ask_gate (kind_number k)) (pins_back ps)

-- Pins below n are not too high.
pub below_low : (n : ℕ) (ps : List ℕ) → Below n ps → or_of (map (leb n) ps) ≡ false
below_low n [] below = refl
below_low n (p ∷ ps) below =
    ap (λ (b : Bool). b || or_of (map (leb n) ps)) (lt-leb n p (below 0 (omega arith)))
    ∙ below_low n ps (λ k within. below (suc k) (omega arith))

-- A wire is admitted again where there is room.
pub admitted_back : (n long : ℕ) (w : Plain) → n < 512 → n < long → Below n (pins_of w) → fits w ≡ true → refusal n long (asks w) ≡ None
admitted_back n long w few column below ok = admitted n long n (asks w) (room (lt-leb 512 n few) (lt-leb long n column)) refl (own w below ok)
  where
    room : {x y : Bool} → x ≡ false → y ≡ false → cond x (Some Full) (cond y (Some ShortColumn) None) ≡ None
    room {x} {y} p q = rw (p, q)

    own : (w : Plain) → Below n (pins_of w) → fits w ≡ true → first_fault (request_checks n (asks w)) ≡ None
    own (input false c) below ok = input_passes 0 (omega arith)
    own (input true c) below ok = input_passes 1 (omega arith)
    own (gate k ps) below ok = (gate_passes (kind_of (kind_number k)) k n ps ps (kind_back k) ok (below_low n ps below) refl).0

-- The record of a wire is read, and what is after it is left.
pub record_back : (long at count : ℕ) (ws : List Plain) (w : Plain) (rest : List ℕ) → length ws < 512 → length ws < long → Below (length ws) (pins_of w) → fits w ≡ true
    → reading long at 0 count ws (record_of w ++ rest) ≡ reading long (at + length (record_of w)) 0 (count + 1) (ws ++ w ∷ []) rest
record_back long at count ws w rest few column below ok =
    let bytes = record_of w ++ rest in
    let AskedIs = request_back rest w ok in
    let long_is = length_back rest w ok in
    let passes = record_admitted ws long bytes (asks w) (readable_back rest w ok) AskedIs (admitted_back (length ws) long w few column below ok) in
    reading_goes_on long at count ws bytes (some w) passes
    ∙ ap (λ (n : ℕ). reading long (at + n) 0 (count + 1) (ws ++ asked (request_of bytes) ∷ []) (drop n bytes)) long_is
    ∙ ap (λ (q : Request). reading long (at + length (record_of w)) 0 (count + 1) (ws ++ asked q ∷ []) (drop (length (record_of w)) bytes)) AskedIs
    ∙ ap (λ (v : Plain). reading long (at + length (record_of w)) 0 (count + 1) (ws ++ v ∷ []) (drop (length (record_of w)) bytes)) (asks_back w)
    ∙ ap (reading long (at + length (record_of w)) 0 (count + 1) (ws ++ w ∷ [])) (drop_at (record_of w) rest (length (record_of w)) refl)
  where
    some : (w : Plain) → 0 < length (record_of w ++ rest)
    some (input start n) = omega arith
    some (gate k ps) = omega arith

-- The records of wires are read one after another.
pub records_back : (long at count : ℕ) (us ws : List Plain) → length us + length ws ≤ 512 → length us + length ws ≤ long → Lower (us ++ ws) → Fitting (us ++ ws)
    → reading long at 0 count us (records_of ws) ≡ record { wires = us ++ ws; answer = Ok (count + length ws) }
records_back long at count us [] few column lower fitting =
    let e : count ≡ count + 0 = omega arith in
    ap (λ (n : ℕ). record { wires = us; answer = Ok n }) e
    ∙ ap (λ (vs : List Plain). record { wires = vs; answer = Ok (count + 0) }) (sym (append-nil us))
records_back long at count us (w ∷ ws) few column lower fitting =
    let here = get_or_at us w ws (input false 0) (length us) refl in
    let all = append_assoc us (w ∷ []) ws in
    let more = length_push us w in
    let e : count + 1 + length ws ≡ count + suc (length ws) = omega arith in
    record_back long at count us w (records_of ws) (omega arith) (omega arith) (subst (λ (v : Plain). Below (length us) (pins_of v)) here (lower (length us))) (ap fits (sym here) ∙ fitting (length us))
    ∙ records_back long (at + length (record_of w)) (count + 1) (us ++ w ∷ []) ws (omega arith) (omega arith) (subst Lower (sym all) lower) (subst Fitting (sym all) fitting)
    ∙ ap (λ (n : ℕ). record { wires = (us ++ w ∷ []) ++ ws; answer = Ok n }) e
    ∙ ap (λ (vs : List Plain). record { wires = vs; answer = Ok (count + suc (length ws)) }) all

-- What is written of a net reads back.
pub net_back : (ws : List Plain) (long : ℕ) → length ws ≤ 512 → Lower ws → Fitting ws → length ws ≤ long
    → reading long 0 0 0 [] (records_of ws) ≡ record { wires = ws; answer = Ok (length ws) }
net_back ws long few lower fitting column =
    let e : 0 + length ws ≡ length ws = omega arith in
    records_back long 0 0 [] ws (omega arith) (omega arith) lower fitting
    ∙ ap (λ (n : ℕ). record { wires = ws; answer = Ok n }) e

-- Records written to the front of a buffer that is long enough.
pub writing_done : (ws : List Plain) (buffer after : List ℕ) (size : ℕ) → size ≡ length (records_of ws) → size ≤ length buffer → after ≡ written_over buffer 0 (records_of ws)
    → length ws ≤ 512 → Lower ws → Fitting ws
    → (Ok size ≡ answer_of_writing ws buffer) × (after ≡ buffer_after_writing ws buffer) × ReadsBack ws (Ok size) after
writing_done ws buffer after size size_is room writes few lower fitting =
    let long_enough : length (records_of ws) ≤ length buffer = omega arith in
    let passes = buffer_passes ws (length buffer) long_enough in
    let front = writes ∙ written_front buffer (records_of ws) long_enough in (
      ap Ok size_is ∙ unless_passed (writing_refusal ws (length buffer)) (length (records_of ws)) passes,
      front ∙ settled_passed (writing_refusal ws (length buffer)) (records_of ws ++ drop (length (records_of ws)) buffer) buffer passes,
      λ n long ok column.
          let all : length (records_of ws) ≡ n = cc in
          ap (reading long 0 0 0 []) (ap (take n) front ∙ take_at (records_of ws) (drop (length (records_of ws)) buffer) n all)
          ∙ net_back ws long few lower fitting column,
    )
