-- Writing records one after another, and what stands in the buffer after them.
use Rattle.std.proofs.Common.{◌≡◌, ℕ, suc, ◌+◌, ◌-◌, ◌*◌, ◌/◌, ◌%◌, ◌<◌, ◌≤◌, Bool, cond, List, [], ◌∷◌, ◌++◌, map, length, get_or, take, drop, set, sum_by, Some, None, sym, refl, ap, ◌∙◌, arith}
use Rattle.std.proofs.lemmas.List.{append_assoc, at_drop_more, length-append, length-drop, length_push, length-set, length-take, length-take-le, set_at, take-append-drop}
use borrow.Rule.Slice.PartMut.{put_mid}
use mir.Val.{bool_byte}
use Rattle.std.proofs.lemmas.List.Sums.{sum_by-cons}
use Rattle.std.proofs.lemmas.Bool.{le-ltb, lt-ltb}
use Rattle.algebras.specs.declared.kind.Kind.{Kind}
use Rattle.algebras.specs.declared.kind.Kind.TheVariants.{Buffer, Inverter, And, Or, Xor, Nand, Nor, Xnor}
use Rattle.algebras.specs.Counting.{byte_bit}
use Rattle.algebras.specs.Kinds.{kind_number}
use Rattle.nets.specs.declared.fault.NetFault.TheVariants.{ShortBuffer}
use Rattle.nets.specs.declared.wire.Wire.{Wire}
use Rattle.nets.specs.declared.wire.Wire.TheVariants.{Input, Output}
use Rattle.nets.specs.declared.wire.Drive.{Drive}
use Rattle.nets.specs.declared.wire.Gate.{Gate}
use Rattle.nets.specs.declared.wire.Pins.{Pins}
use Rattle.nets.specs.Wires.{Plain}
use Rattle.nets.specs.Tables.{pin_list, plain}
use Rattle.nets.specs.Writing.{pin_bytes, record_of, records_of, written_over, writing_refusal}

-- A kind's number is 1 to 8.
pub number_small : (k : Kind) → (1 ≤ kind_number k) × (kind_number k ≤ 8)
number_small Buffer = (omega arith, omega arith)
number_small Inverter = (omega arith, omega arith)
number_small And = (omega arith, omega arith)
number_small Or = (omega arith, omega arith)
number_small Xor = (omega arith, omega arith)
number_small Nand = (omega arith, omega arith)
number_small Nor = (omega arith, omega arith)
number_small Xnor = (omega arith, omega arith)

-- Pins have two bytes each.
pub length_pins : (ps : List ℕ) → length (pin_bytes ps) ≡ 2 * length ps
length_pins [] = refl
length_pins (p ∷ ps) = let h = length_pins ps in omega arith

-- A gate of the table has at most eight pins, and its record has a byte and two for each.
pub few_pins : (p : Pins 8) (ps : List ℕ) → ps ≡ pin_list p → length ps ≤ 8
few_pins p ps same =
    let long = ap length same ∙ length-take p.«count» p.wires in
    let few = p.few in
    omega arith

pub gate_size : (v : Wire) (g : Gate) (ps : List ℕ) → v ≡ Output g → ps ≡ pin_list g.pins → 1 + 2 * length ps ≡ length (record_of (plain v))
gate_size v g ps is same =
    let h = length_pins ps in
    let size : 1 + 2 * length ps ≡ suc (length (pin_bytes ps)) = omega arith in
    size ∙ ap (λ (qs : List ℕ). suc (length (pin_bytes qs))) same ∙ sym (ap (λ (u : Wire). length (record_of (plain u))) is)

-- Writing keeps the buffer's length.
pub length_written : (xs : List ℕ) (at : ℕ) (bs : List ℕ) → length (written_over xs at bs) ≡ length xs
length_written xs at [] = refl
length_written xs at (b ∷ bs) = length_written (set xs at b) (at + 1) bs ∙ length-set xs at b

-- Bytes after bytes are written from where those end.
pub written_append : (xs : List ℕ) (at : ℕ) (bs cs : List ℕ) → written_over xs at (bs ++ cs) ≡ written_over (written_over xs at bs) (at + length bs) cs
written_append xs at [] cs =
    let e : at ≡ at + 0 = omega arith in
    ap (λ (n : ℕ). written_over xs n cs) e
written_append xs at (b ∷ bs) cs =
    let e : (at + 1) + length bs ≡ at + suc (length bs) = omega arith in
    written_append (set xs at b) (at + 1) bs cs ∙ ap (λ (n : ℕ). written_over (written_over (set xs at b) (at + 1) bs) n cs) e

-- What is written after a part stands between it and the rest.
pub written_after : (ps xs bs : List ℕ) → length bs ≤ length xs → written_over (ps ++ xs) (length ps) bs ≡ ps ++ (bs ++ drop (length bs) xs)
written_after ps xs [] fits = refl
written_after ps [] (b ∷ bs) fits = absurd (omega arith)
written_after ps (x ∷ xs) (b ∷ bs) fits =
    ap (λ (ys : List ℕ). written_over ys (length ps + 1) bs) (set_at ps x xs b (length ps) refl ∙ sym (append_assoc ps (b ∷ []) xs))
    ∙ ap (λ (n : ℕ). written_over ((ps ++ b ∷ []) ++ xs) n bs) (sym (length_push ps b))
    ∙ written_after (ps ++ b ∷ []) xs bs (omega arith)
    ∙ append_assoc ps (b ∷ []) (bs ++ drop (length bs) xs)

-- A part that is as long as the bytes copied over it is written with them.
pub part_written : (xs : List ℕ) (at k : ℕ) (bs : List ℕ) → k ≡ length bs → at + length bs ≤ length xs → put_mid at k xs bs ≡ written_over xs at bs
part_written xs at k bs same fits =
    let front : length (take at xs) ≡ at = length-take-le at xs (omega arith) in
    let back = length-drop at xs in
    ap (λ (n : ℕ). take at xs ++ (bs ++ drop n (drop at xs))) same
    ∙ sym (written_after (take at xs) (drop at xs) bs (omega arith))
    ∙ ap (λ (n : ℕ). written_over (take at xs ++ drop at xs) n bs) front
    ∙ ap (λ (ys : List ℕ). written_over ys at bs) (take-append-drop at xs)

-- What is written at the front stands before the rest.
pub written_front : (xs bs : List ℕ) → length bs ≤ length xs → written_over xs 0 bs ≡ bs ++ drop (length bs) xs
written_front xs bs fits = written_after [] xs bs fits

-- The record of an input is written.
pub input_written : (v : Wire) (d : Drive) (xs ys : List ℕ) (at start : ℕ) → v ≡ Input d → start ≡ bool_byte d.start → at + length (record_of (plain v)) ≤ length xs
    → ys ≡ 1 ∷ start ∷ d.changes ∷ [] → put_mid at (at + 3 - at) xs ys ≡ written_over xs at (record_of (plain v))
input_written v d xs ys at start is start_of fits same =
    let bytes : ys ≡ record_of (plain v) = same ∙ ap (λ (n : ℕ). 1 ∷ n ∷ d.changes ∷ []) (start_of ∙ byte_bit d.start) ∙ sym (ap (λ (u : Wire). record_of (plain u)) is) in
    let long = ap (λ (u : Wire). length (record_of (plain u))) is in
    ap (put_mid at (at + 3 - at) xs) bytes ∙ part_written xs at (at + 3 - at) (record_of (plain v)) (omega arith) fits

-- The records of the wires from the i-th on.
abbrev pub records_from : List Wire → ℕ → List ℕ
records_from vs i = records_of (map plain (drop i vs))

pub records_more : (vs : List Wire) (i : ℕ) (v : Wire) → i < length vs → v ≡ get_or vs i v → records_from vs i ≡ record_of (plain v) ++ records_from vs (i + 1)
records_more vs i v within read =
    at_drop_more (λ (us : List Wire). records_of (map plain us)) vs i v within
    ∙ ap (λ (u : Wire). record_of (plain u) ++ records_from vs (i + 1)) (sym read)

-- The size of one record more.
pub size_more : (vs : List Wire) (i : ℕ) (v : Wire) → i < length vs → v ≡ get_or vs i v
    → length (records_from vs i) ≡ length (record_of (plain v)) + length (records_from vs (i + 1))
size_more vs i v within read = ap length (records_more vs i v within read) ∙ length-append (record_of (plain v)) (records_from vs (i + 1))

-- The sizes of all records.
pub all_sizes : (vs : List Wire) → sum_by (λ (v : Wire). length (record_of (plain v))) vs ≡ length (records_of (map plain vs))
all_sizes [] = refl
all_sizes (v ∷ vs) =
    sum_by-cons (λ (u : Wire). length (record_of (plain u))) v vs
    ∙ ap (λ (n : ℕ). length (record_of (plain v)) + n) (all_sizes vs)
    ∙ sym (length-append (record_of (plain v)) (records_of (map plain vs)))

-- One record more is written, and none is left.
pub written_more : (vs : List Wire) (i : ℕ) (v : Wire) (xs ys : List ℕ) (at after : ℕ) → i < length vs → v ≡ get_or vs i v
    → ys ≡ written_over xs at (record_of (plain v)) → after ≡ at + length (record_of (plain v))
    → written_over ys after (records_from vs (i + 1)) ≡ written_over xs at (records_from vs i)
written_more vs i v xs ys at after within read writes ends =
    ap (λ (zs : List ℕ). written_over zs after (records_from vs (i + 1))) writes
    ∙ ap (λ (n : ℕ). written_over (written_over xs at (record_of (plain v))) n (records_from vs (i + 1))) ends
    ∙ sym (written_append xs at (record_of (plain v)) (records_from vs (i + 1)))
    ∙ sym (ap (written_over xs at) (records_more vs i v within read))

-- One pin more is written, and none is left.
pub pins_written : (ps : List ℕ) (i : ℕ) (xs ys bs : List ℕ) (from : ℕ) → i < length ps → get_or ps i 0 < 65536 → from + 2 * i + 2 ≤ length xs
    → bs ≡ get_or ps i 0 % 256 ∷ get_or ps i 0 / 256 % 256 ∷ [] → ys ≡ bs
    → written_over (put_mid (from + 2 * i) (from + 2 * i + 2 - (from + 2 * i)) xs ys) (from + 2 * (i + 1)) (pin_bytes (drop (i + 1) ps)) ≡ written_over xs (from + 2 * i) (pin_bytes (drop i ps))
pins_written ps i xs ys bs from within small fits are same =
    let p = get_or ps i 0 in
    let at = from + 2 * i in
    let two : at + 2 - at ≡ length (p % 256 ∷ p / 256 ∷ []) = omega arith in
    let next : from + 2 * (i + 1) ≡ at + 1 + 1 = omega arith in
    let high : p / 256 % 256 ≡ p / 256 = omega arith in
    let bytes : ys ≡ p % 256 ∷ p / 256 ∷ [] = same ∙ are ∙ ap (λ (n : ℕ). p % 256 ∷ n ∷ []) high in
    ap (λ (n : ℕ). written_over (put_mid at (at + 2 - at) xs ys) n (pin_bytes (drop (i + 1) ps))) next
    ∙ ap (λ (zs : List ℕ). written_over (put_mid at (at + 2 - at) xs zs) (at + 1 + 1) (pin_bytes (drop (i + 1) ps))) bytes
    ∙ ap (λ (zs : List ℕ). written_over zs (at + 1 + 1) (pin_bytes (drop (i + 1) ps))) (part_written xs at (at + 2 - at) (p % 256 ∷ p / 256 ∷ []) two fits)
    ∙ sym (at_drop_more (λ (qs : List ℕ). written_over xs at (pin_bytes qs)) ps i 0 within)

-- A buffer that is long enough is not refused, and a shorter one is.
pub buffer_passes : (ws : List Plain) (long : ℕ) → length (records_of ws) ≤ long → writing_refusal ws long ≡ None
buffer_passes ws long h = ap (λ (b : Bool). cond b (Some ShortBuffer) None) (le-ltb long (length (records_of ws)) h)

pub buffer_refused : (ws : List Plain) (long : ℕ) → long < length (records_of ws) → writing_refusal ws long ≡ Some ShortBuffer
buffer_refused ws long h = ap (λ (b : Bool). cond b (Some ShortBuffer) None) (lt-ltb long (length (records_of ws)) h)
