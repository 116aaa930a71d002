-- Reading record after record: what one record does, and what is left to read.
use Rattle.std.proofs.Common.{◌≡◌, ℕ, zero, suc, ◌+◌, ◌<◌, ◌≤◌, Bool, true, false, cond, not, eqb, ltb, leb, ◌⊎◌, List, [], ◌∷◌, ◌++◌, map, length, get_or, drop, set, is_some, Some, None, Err, Option, unwrap_or, sym, refl, ap, ◌∙◌, inl, inr, ⊎_elim, add-one, arith}
use Rattle.std.proofs.lemmas.List.{length_push, length-set}
use Rattle.std.proofs.lemmas.Bool.{cases_Bool, eqb-true, leb-false, ltb-false}
use Rattle.std.specs.Option.{option_map}
use Rattle.algebras.specs.declared.algebra.Algebra.{Ghosts}
use Rattle.algebras.specs.Kinds.{kind_of}
use Rattle.algebras.specs.Letters.{or_of}
use Rattle.nets.specs.declared.fault.NetFault.{NetFault}
use Rattle.nets.specs.declared.fault.NetFault.TheVariants.{BadStart, Full, ShortColumn, BadKind, BadPinCount, HighPin}
use Rattle.nets.specs.declared.fault.Reason.{Reason}
use Rattle.nets.specs.declared.fault.Reason.TheVariants.{UnknownKind, CutShort}
use Rattle.nets.specs.Faults.{net_fault_number, settled}
use Rattle.nets.specs.Placing.{Request, ask_input, ask_gate, count_allowed, refusal, asked}
use Rattle.nets.specs.Records.{at_place, body_size, carried, column_reading, first_high, known, misread, or_else, Outcome, pin_of, pins_asked, reading, reason_number, reason_of, record_length, request_at, request_of, search_high, stopped}
use Rattle.nets.specs.Wires.{Plain}
use Rattle.nets.specs.Working.{worked}
use Rattle.nets.proofs.Placements.{settled_passed, settled_refused}
use Rattle.nets.proofs.Readings.{search_finds, search_goes_on}

-- One reason or another.
pub or_else_none : {X : Type 0} (x y : Option X) → or_else x y ≡ None → (x ≡ None) × (y ≡ None)
or_else_none None y e = (refl, e)
or_else_none (Some x) y e = absurd (let z : ◌≡◌ {A = ℕ} 0 1 = cc in omega arith)

pub or_else_some : {X : Type 0} (x y : Option X) (r : X) → or_else x y ≡ Some r → (x ≡ Some r) ⊎ ((x ≡ None) × (y ≡ Some r))
or_else_some None y r e = inr (refl, e)
or_else_some (Some x) y r e = inl e

-- A refusal carried into a reason.
pub carried_none : (o : Option NetFault) → carried o ≡ None → o ≡ None
carried_none None e = refl
carried_none (Some f) e = absurd (let z : ◌≡◌ {A = ℕ} 0 1 = cc in omega arith)

abbrev pub number_or_none : Option NetFault → ℕ
number_or_none None = 0
number_or_none (Some f) = net_fault_number f

abbrev pub reason_or_none : Option Reason → ℕ
reason_or_none None = 0
reason_or_none (Some r) = reason_number r

pub carried_number : (o : Option NetFault) (r : Reason) → carried o ≡ Some r → number_or_none o ≡ reason_number r
carried_number None r e = absurd (let z : ◌≡◌ {A = ℕ} 0 1 = cc in omega arith)
carried_number (Some f) r e = ap reason_or_none e

-- A reason that a record cannot be read is not 9.
pub misread_number : (b : ℕ) (bs : List ℕ) (r : Reason) → misread b bs ≡ Some r → reason_number r ≡ 9 → ⊥
misread_number b bs r e nine = go (known b) (ltb (length bs) (body_size b)) e
  where
    go : (k s : Bool) → cond (not k) (Some UnknownKind) (cond s (Some CutShort) None) ≡ Some r → ⊥
    go false s e = let n = ap reason_or_none e in omega arith
    go true true e = let n = ap reason_or_none e in omega arith
    go true false e = let n = ap reason_or_none e in omega arith

-- What refusal 9, and no refusal, say of the pins.
pub high_refusal : (n long : ℕ) (q : Request) → number_or_none (refusal n long q) ≡ 9 → (n < 512) × (or_of (map (leb n) (pins_asked q)) ≡ true)
high_refusal n long (ask_input start changes) e = go (leb 512 n) (leb long n) (ltb 1 start) e
  where
    go : (a b s : Bool) → number_or_none (cond a (Some Full) (cond b (Some ShortColumn) (cond s (Some BadStart) None))) ≡ 9 → (n < 512) × (false ≡ true)
    go true b s e = absurd (omega arith)
    go false true s e = absurd (omega arith)
    go false false true e = absurd (omega arith)
    go false false false e = absurd (omega arith)
high_refusal n long (ask_gate kind pins) e = go (leb 512 n) (leb long n) (is_some (kind_of kind)) (count_allowed (kind_of kind) (length pins)) (or_of (map (leb n) pins)) refl e
  where
    go : (a b k c h : Bool) → leb 512 n ≡ a → number_or_none (cond a (Some Full) (cond b (Some ShortColumn) (cond (not k) (Some BadKind) (cond (not c) (Some BadPinCount) (cond h (Some HighPin) None))))) ≡ 9
        → (n < 512) × (h ≡ true)
    go true b k c h p e = absurd (omega arith)
    go false true k c h p e = absurd (omega arith)
    go false false false c h p e = absurd (omega arith)
    go false false true false h p e = absurd (omega arith)
    go false false true true true p e = (leb-false 512 n p, refl)
    go false false true true false p e = absurd (omega arith)

pub low_admitted : (n long : ℕ) (q : Request) → refusal n long q ≡ None → (n < 512) × (or_of (map (leb n) (pins_asked q)) ≡ false)
low_admitted n long (ask_input start changes) e = go (leb 512 n) refl (ap number_or_none e)
  where
    go : (a : Bool) → leb 512 n ≡ a → number_or_none (cond a (Some Full) (cond (leb long n) (Some ShortColumn) (cond (ltb 1 start) (Some BadStart) None))) ≡ 0 → (n < 512) × (false ≡ false)
    go true p e = absurd (omega arith)
    go false p e = (leb-false 512 n p, refl)
low_admitted n long (ask_gate kind pins) e = go (leb 512 n) (leb long n) (is_some (kind_of kind)) (count_allowed (kind_of kind) (length pins)) (or_of (map (leb n) pins)) refl (ap number_or_none e)
  where
    go : (a b k c h : Bool) → leb 512 n ≡ a → number_or_none (cond a (Some Full) (cond b (Some ShortColumn) (cond (not k) (Some BadKind) (cond (not c) (Some BadPinCount) (cond h (Some HighPin) None))))) ≡ 0
        → (n < 512) × (h ≡ false)
    go true b k c h p e = absurd (omega arith)
    go false true k c h p e = absurd (omega arith)
    go false false false c h p e = absurd (omega arith)
    go false false true false h p e = absurd (omega arith)
    go false false true true true p e = absurd (omega arith)
    go false false true true false p e = (leb-false 512 n p, refl)

-- Where a record is refused for a pin too high, the search finds that pin; else the pin is 0.
pub pin_found : (ws : List Plain) (long : ℕ) (bytes : List ℕ) (r : Reason) (s : Option ℕ) → 0 < length bytes → reason_of ws long bytes ≡ Some r
    → s ≡ search_high 0 (length ws) bytes → cond (eqb (reason_number r) 9) (unwrap_or s 0) 0 ≡ pin_of r (length ws) (request_of bytes)
pin_found ws long bytes r s some refused search = ⊎_elim nine other (cases_Bool (eqb (reason_number r) 9))
  where
    other : eqb (reason_number r) 9 ≡ false → cond (eqb (reason_number r) 9) (unwrap_or s 0) 0 ≡ pin_of r (length ws) (request_of bytes)
    other e = ap (λ (b : Bool). cond b (unwrap_or s 0) 0) e ∙ sym (ap (λ (b : Bool). cond b (first_high (length ws) (pins_asked (request_of bytes))) 0) e)

    nine : eqb (reason_number r) 9 ≡ true → cond (eqb (reason_number r) 9) (unwrap_or s 0) 0 ≡ pin_of r (length ws) (request_of bytes)
    nine e =
        let number = eqb-true (reason_number r) 9 e in
        ⊎_elim
        (λ bad. absurd (misread_number (get_or bytes 0 0) (drop 1 bytes) r bad number))
        (λ net.
        let high = high_refusal (length ws) long (request_of bytes) (carried_number (refusal (length ws) long (request_of bytes)) r net.1 ∙ number) in
        ap (λ (o : Option ℕ). cond (eqb (reason_number r) 9) (unwrap_or o 0) 0) (search ∙ search_finds (length ws) bytes some net.0 high.0 high.1))
        (or_else_some (misread (get_or bytes 0 0) (drop 1 bytes)) (carried (refusal (length ws) long (request_of bytes))) r refused)

-- Where a record is placed, the search goes on after it.
pub search_past : (ws : List Plain) (long : ℕ) (bytes : List ℕ) → 0 < length bytes → reason_of ws long bytes ≡ None
    → search_high 0 (length ws) bytes ≡ search_high 0 (length ws + 1) (drop (record_length bytes) bytes)
search_past ws long bytes some admitted =
    let parts = or_else_none (misread (get_or bytes 0 0) (drop 1 bytes)) (carried (refusal (length ws) long (request_of bytes))) admitted in
    let low = low_admitted (length ws) long (request_of bytes) (carried_none (refusal (length ws) long (request_of bytes)) parts.1) in
    search_goes_on (length ws) bytes some parts.0 low.0 low.1

-- A record that is placed is whole.
pub placed_whole : (ws : List Plain) (long : ℕ) (bytes : List ℕ) → 0 < length bytes → reason_of ws long bytes ≡ None → record_length bytes ≤ length bytes
placed_whole ws long [] some admitted = absurd (omega arith)
placed_whole ws long (b ∷ bs) some admitted =
    let read = (or_else_none (misread b bs) (carried (refusal (length ws) long (request_at b bs))) admitted).0 in
    go (known b) (ltb (length bs) (body_size b)) refl (ap reason_or_none read)
  where
    go : (k s : Bool) → ltb (length bs) (body_size b) ≡ s → reason_or_none (cond (not k) (Some UnknownKind) (cond s (Some CutShort) None)) ≡ 0 → suc (body_size b) ≤ suc (length bs)
    go false s p e = absurd (omega arith)
    go true true p e = absurd (omega arith)
    go true false p e = let h = ltb-false (length bs) (body_size b) p in omega arith

-- An option's value, mapped.
pub mapped_some : {X Y : Type 0} (f : X → Y) (o : Option X) (y : Y) → option_map f o ≡ Some y → (x : X) × (o ≡ Some x) × (f x ≡ y)
mapped_some f None y e = absurd (let z : ◌≡◌ {A = ℕ} 0 1 = cc in omega arith)
mapped_some f (Some x) y e = (x, refl, cc)

pub mapped_none : {X Y : Type 0} (f : X → Y) (o : Option X) → option_map f o ≡ None → o ≡ None
mapped_none f None e = refl
mapped_none f (Some x) e = absurd (let z : ◌≡◌ {A = ℕ} 0 1 = cc in omega arith)

-- Bytes of a body are passed over.
pub reading_skips : (long k at count : ℕ) (ws : List Plain) (bs : List ℕ) → reading long at k count ws bs ≡ reading long (at + k) 0 count ws (drop k bs)
reading_skips long zero at count ws bs =
    let e : at ≡ at + 0 = omega arith in
    ap (λ (n : ℕ). reading long n 0 count ws bs) e
reading_skips long (suc k) at count ws [] = refl
reading_skips long (suc k) at count ws (b ∷ bs) =
    let e : suc at + k ≡ at + suc k = omega arith in
    reading_skips long k (suc at) count ws bs ∙ ap (λ (n : ℕ). reading long n 0 count ws (drop k bs)) e

-- A record that is refused ends the reading.
pub reading_ends : (long at count : ℕ) (ws : List Plain) (bytes : List ℕ) (r : Reason) → 0 < length bytes → reason_of ws long bytes ≡ Some r
    → reading long at 0 count ws bytes ≡ record { wires = ws; answer = Err (at_place r at (length ws) (pin_of r (length ws) (request_of bytes))) }
reading_ends long at count ws [] r some refused = absurd (omega arith)
reading_ends long at count ws (b ∷ bs) r some refused =
    ap (λ (o : Option Reason). stopped o
    (λ r. record { wires = ws; answer = Err (at_place r at (length ws) (pin_of r (length ws) (request_at b bs))) })
    (reading long (suc at) (body_size b) (suc count) (ws ++ asked (request_at b bs) ∷ []) bs))
    refused

-- After a record that is placed, what is left is read.
pub reading_goes_on : (long at count : ℕ) (ws : List Plain) (bytes : List ℕ) → 0 < length bytes → reason_of ws long bytes ≡ None
    → reading long at 0 count ws bytes ≡ reading long (at + record_length bytes) 0 (count + 1) (ws ++ asked (request_of bytes) ∷ []) (drop (record_length bytes) bytes)
reading_goes_on long at count ws [] some admitted = absurd (omega arith)
reading_goes_on long at count ws (b ∷ bs) some admitted =
    let ws' = ws ++ asked (request_at b bs) ∷ [] in
    let e : suc at + body_size b ≡ at + suc (body_size b) = omega arith in
    ap (λ (o : Option Reason). stopped o
    (λ r. record { wires = ws; answer = Err (at_place r at (length ws) (pin_of r (length ws) (request_at b bs))) })
    (reading long (suc at) (body_size b) (suc count) ws' bs))
    admitted
    ∙ reading_skips long (body_size b) (suc at) (suc count) ws' bs
    ∙ ap (λ (n : ℕ). reading long n 0 (suc count) ws' (drop (body_size b) bs)) e
    ∙ ap (λ (n : ℕ). reading long (at + suc (body_size b)) 0 n ws' (drop (body_size b) bs)) (sym (add-one count))

module _ {X G : Type 0} (L : Ghosts X G) (a : X) where
  -- The same of the column.
  pub column_skips : (k : ℕ) (ws : List Plain) (column : List G) (bs : List ℕ) → column_reading L a k ws column bs ≡ column_reading L a 0 ws column (drop k bs)
  column_skips zero ws column bs = refl
  column_skips (suc k) ws column [] = refl
  column_skips (suc k) ws column (b ∷ bs) = column_skips k ws column bs

  pub column_ends : (ws : List Plain) (column : List G) (bytes : List ℕ) (r : Reason) → 0 < length bytes → reason_of ws (length column) bytes ≡ Some r → column_reading L a 0 ws column bytes ≡ column
  column_ends ws column [] r some refused = refl
  column_ends ws column (b ∷ bs) r some refused =
      ap (λ (o : Option Reason). stopped o (λ r. column)
      (column_reading L a (body_size b) (ws ++ asked (request_at b bs) ∷ []) (set column (length ws) (worked L a column (asked (request_at b bs)))) bs))
      refused

  pub column_goes_on : (ws : List Plain) (column : List G) (bytes : List ℕ) → 0 < length bytes → reason_of ws (length column) bytes ≡ None
      → column_reading L a 0 ws column bytes
      ≡ column_reading L a 0 (ws ++ asked (request_of bytes) ∷ []) (set column (length ws) (worked L a column (asked (request_of bytes)))) (drop (record_length bytes) bytes)
  column_goes_on ws column [] some admitted = absurd (omega arith)
  column_goes_on ws column (b ∷ bs) some admitted =
      ap (λ (o : Option Reason). stopped o (λ r. column)
      (column_reading L a (body_size b) (ws ++ asked (request_at b bs) ∷ []) (set column (length ws) (worked L a column (asked (request_at b bs)))) bs))
      admitted
      ∙ column_skips (body_size b) (ws ++ asked (request_at b bs) ∷ []) (set column (length ws) (worked L a column (asked (request_at b bs)))) bs

-- One turn of reading at offset `at`, where `rest` are the bytes from there on and so many records are read.
module _ {X G : Type 0} (L : Ghosts X G) (a : X) (rest : List ℕ) (at count : ℕ) (ws : List Plain) (column : List G) (result : Outcome) (entries : List G) (high : Option ℕ)
    (some : 0 < length rest) (left : reading (length column) at 0 count ws rest ≡ result) (left_column : column_reading L a 0 ws column rest ≡ entries)
    (search : search_high 0 (length ws) rest ≡ high) where
  -- A record is placed, and the reading goes on after it.
  pub turn_placed : (size : ℕ) (ws' : List Plain) (column' : List G) → reason_of ws (length column) rest ≡ None → record_length rest ≡ size
      → ws' ≡ settled (reason_of ws (length column) rest) (ws ++ asked (request_of rest) ∷ []) ws
      → column' ≡ settled (reason_of ws (length column) rest) (set column (length ws) (worked L a column (asked (request_of rest)))) column
      → (size ≤ length rest) × (1 ≤ size)
      × (reading (length column') (at + size) 0 (count + 1) ws' (drop size rest) ≡ result)
      × (column_reading L a 0 ws' column' (drop size rest) ≡ entries)
      × (search_high 0 (length ws') (drop size rest) ≡ high)
  turn_placed size ws' column' placed long wires filled =
      let whole = placed_whole ws (length column) rest some placed in
      let ws_is = wires ∙ sym (settled_passed (reason_of ws (length column) rest) (ws ++ asked (request_of rest) ∷ []) ws placed) in
      let column_is = filled ∙ sym (settled_passed (reason_of ws (length column) rest) (set column (length ws) (worked L a column (asked (request_of rest)))) column placed) in
      let long_is = ap length column_is ∙ length-set column (length ws) (worked L a column (asked (request_of rest))) in
      let bytes_are = ap (λ (n : ℕ). drop n rest) (sym long) in
      let on = reading_goes_on (length column) at count ws rest some placed in
      let column_on = column_goes_on L a ws column rest some placed in
      let past = search_past ws (length column) rest some placed in (
        omega arith,
        omega arith,
        ap (λ (n : ℕ). reading n (at + size) 0 (count + 1) ws' (drop size rest)) long_is
            ∙ ap (λ (n : ℕ). reading (length column) n 0 (count + 1) ws' (drop size rest)) (ap (λ (n : ℕ). at + n) (sym long))
            ∙ ap (λ v. reading (length column) (at + record_length rest) 0 (count + 1) v (drop size rest)) ws_is
            ∙ ap (reading (length column) (at + record_length rest) 0 (count + 1) (ws ++ asked (request_of rest) ∷ [])) bytes_are
            ∙ sym on ∙ left,
        ap (λ v. column_reading L a 0 v column' (drop size rest)) ws_is
            ∙ ap (λ v. column_reading L a 0 (ws ++ asked (request_of rest) ∷ []) v (drop size rest)) column_is
            ∙ ap (column_reading L a 0 (ws ++ asked (request_of rest) ∷ []) (set column (length ws) (worked L a column (asked (request_of rest))))) bytes_are
            ∙ sym column_on ∙ left_column,
        ap (λ (n : ℕ). search_high 0 n (drop size rest)) (ap length ws_is ∙ length_push ws (asked (request_of rest)))
            ∙ ap (search_high 0 (length ws + 1)) bytes_are
            ∙ sym past ∙ search,
      )

  -- A record is refused, and the reading ends.
  pub turn_refused : (r : Reason) (ws' : List Plain) (column' : List G) (pin : ℕ) → reason_of ws (length column) rest ≡ Some r
      → ws' ≡ settled (reason_of ws (length column) rest) (ws ++ asked (request_of rest) ∷ []) ws
      → column' ≡ settled (reason_of ws (length column) rest) (set column (length ws) (worked L a column (asked (request_of rest)))) column
      → pin ≡ cond (eqb (reason_number r) 9) (unwrap_or high 0) 0
      → (Err (at_place r at (length ws') pin) ≡ result.answer) × (ws' ≡ result.wires) × (column' ≡ entries)
  turn_refused r ws' column' pin refused wires filled pin_is =
      let ws_is = wires ∙ sym (settled_refused (reason_of ws (length column) rest) (ws ++ asked (request_of rest) ∷ []) ws r refused) in
      let column_is = filled ∙ sym (settled_refused (reason_of ws (length column) rest) (set column (length ws) (worked L a column (asked (request_of rest)))) column r refused) in
      let ends = sym (reading_ends (length column) at count ws rest r some refused) ∙ left in
      let column_end = sym (column_ends L a ws column rest r some refused) ∙ left_column in
      let found = pin_is ∙ pin_found ws (length column) rest r high some refused (sym search) in (
        ap (λ (n : ℕ). Err (at_place r at (length ws') n)) found
            ∙ ap (λ v. Err (at_place r at (length v) (pin_of r (length ws) (request_of rest)))) ws_is
            ∙ ap (λ (o : Outcome). o.answer) ends,
        ws_is ∙ ap (λ (o : Outcome). o.wires) ends,
        column_is ∙ column_end,
      )

-- Nothing is left.
pub turn_none : (long at count : ℕ) (ws : List Plain) (rest : List ℕ) (result : Outcome) → reading long at 0 count ws rest ≡ result → length rest ≡ 0 → ws ≡ result.wires
turn_none long at count ws [] result left none = ap (λ (o : Outcome). o.wires) left
turn_none long at count ws (b ∷ bs) result left none = absurd (omega arith)

pub column_none : {X G : Type 0} (L : Ghosts X G) (a : X) (ws : List Plain) (column : List G) (rest : List ℕ) (entries : List G) → column_reading L a 0 ws column rest ≡ entries → length rest ≡ 0 → column ≡ entries
column_none L a ws column [] entries left none = left
column_none L a ws column (b ∷ bs) entries left none = absurd (omega arith)
