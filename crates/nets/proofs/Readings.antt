-- Reading records: what the bytes ask for, and why they are refused.
use Rattle.std.proofs.Common.{◌≡◌, ℕ, zero, suc, ◌+◌, ◌-◌, ◌*◌, ◌/◌, ◌%◌, ◌<◌, ◌≤◌, Bool, true, false, cond, not, ◌||◌, leb, List, [], ◌∷◌, map, length, get_or, take, drop, is_some, Some, None, sym, refl, ap, ◌∙◌, add-one, arith}
use Rattle.std.proofs.lemmas.List.{get_or-take, get_or-drop, length-drop, take_rest}
use Rattle.std.proofs.lemmas.Bool.{ne_eqb, le-ltb, lt-leb}
use Rattle.algebras.specs.Letters.{or_of}
use Rattle.nets.specs.declared.fault.NetFault.{NetFault}
use Rattle.nets.specs.declared.fault.Reason.TheVariants.{UnknownKind, CutShort, Refused}
use Rattle.nets.specs.Placing.{Request, ask_input, ask_gate, refusal}
use Rattle.nets.specs.Records.{known, is_input, body_size, pins_in, request_at, misread, carried, or_else, record_length, request_of, reason_of, pins_asked, first_high, search_high}
use Rattle.nets.specs.Wires.{Plain}

-- A kind byte is known where its length is answered.
pub known_from : (b : Bool) → cond b None (Some UnknownKind) ≡ None → b ≡ true
known_from true e = refl
known_from false e = absurd (let z : ◌≡◌ {A = ℕ} 0 1 = cc in omega arith)

-- A record of a known kind with its whole body is read.
pub readable : (bytes : List ℕ) (size : ℕ) → known (get_or bytes 0 0) ≡ true → record_length bytes ≡ size → size ≤ length bytes → misread (get_or bytes 0 0) (drop 1 bytes) ≡ None
readable bytes size kind long whole =
    let body : body_size (get_or bytes 0 0) ≤ length (drop 1 bytes) = rw length-drop (fits (body_size (get_or bytes 0 0)) (length bytes) long whole) in
    let cut = le-ltb (length (drop 1 bytes)) (body_size (get_or bytes 0 0)) body in
    passes kind cut
  where
    fits : (m n : ℕ) → suc m ≡ size → size ≤ n → m ≤ n - 1
    fits m n p q = omega arith

    passes : {x y : Bool} → x ≡ true → y ≡ false → cond (not x) (Some UnknownKind) (cond y (Some CutShort) None) ≡ None
    passes {x} {y} p q = rw (p, q)

-- What the record of an input asks for.
pub input_request : (bytes : List ℕ) → get_or bytes 0 0 ≡ 1 → request_of bytes ≡ ask_input (get_or bytes 1 0) (get_or bytes 2 0)
input_request bytes kind =
    ap (λ (b : ℕ). request_at b (drop 1 bytes)) kind
    ∙ ap (λ (x : ℕ). ask_input x (get_or (take 2 (drop 1 bytes)) 1 0)) (get_or-take 2 (drop 1 bytes) 0 0 (omega arith) ∙ get_or-drop 1 bytes 0 0)
    ∙ ap (λ (x : ℕ). ask_input (get_or bytes 1 0) x) (get_or-take 2 (drop 1 bytes) 1 0 (omega arith) ∙ get_or-drop 1 bytes 1 0)

-- What the record of a gate asks for.
pub gate_request : (bytes : List ℕ) (size : ℕ) → (get_or bytes 0 0 ≡ 1 → ⊥) → record_length bytes ≡ size
    → request_of bytes ≡ ask_gate (get_or bytes 0 0 / 16) (pins_in (take (size - 1) (drop 1 bytes)))
gate_request bytes size kind long = go (get_or bytes 0 0) kind long
  where
    less : (m : ℕ) → suc m ≡ size → m ≡ size - 1
    less m p = omega arith

    go : (b : ℕ) → (b ≡ 1 → ⊥) → suc (body_size b) ≡ size → request_at b (drop 1 bytes) ≡ ask_gate (b / 16) (pins_in (take (size - 1) (drop 1 bytes)))
    go b kind long =
        ap (λ (i : Bool). cond i (ask_input (get_or (take (body_size b) (drop 1 bytes)) 0 0) (get_or (take (body_size b) (drop 1 bytes)) 1 0)) (ask_gate (b / 16) (pins_in (take (body_size b) (drop 1 bytes))))) (ne_eqb b 1 kind)
        ∙ ap (λ (n : ℕ). ask_gate (b / 16) (pins_in (take n (drop 1 bytes)))) (less (body_size b) long)

-- Why a record that can be read is refused, and that it is not.
pub record_refused : (ws : List Plain) (long : ℕ) (bytes : List ℕ) (q : Request) (f : NetFault) → misread (get_or bytes 0 0) (drop 1 bytes) ≡ None → request_of bytes ≡ q
    → refusal (length ws) long q ≡ Some f → reason_of ws long bytes ≡ Some (Refused f)
record_refused ws long bytes q f read asks refused =
    ap (λ o. or_else o (carried (refusal (length ws) long (request_of bytes)))) read
    ∙ ap (λ r. carried (refusal (length ws) long r)) asks
    ∙ ap carried refused

pub record_admitted : (ws : List Plain) (long : ℕ) (bytes : List ℕ) (q : Request) → misread (get_or bytes 0 0) (drop 1 bytes) ≡ None → request_of bytes ≡ q
    → refusal (length ws) long q ≡ None → reason_of ws long bytes ≡ None
record_admitted ws long bytes q read asks admitted =
    ap (λ o. or_else o (carried (refusal (length ws) long (request_of bytes)))) read
    ∙ ap (λ r. carried (refusal (length ws) long r)) asks
    ∙ ap carried admitted

-- What an input's record and a gate's record have for pins.
pub input_pins : (bytes : List ℕ) → get_or bytes 0 0 ≡ 1 → pins_asked (request_of bytes) ≡ []
input_pins bytes kind = ap pins_asked (input_request bytes kind)

-- A body has 30 bytes at most.
pub body_small : (b : ℕ) → body_size b ≤ 30
body_small b = go (is_input b)
  where
    go : (i : Bool) → cond i 2 (2 * (b % 16)) ≤ 30
    go true = omega arith
    go false = omega arith

-- Bytes of a body are passed over.
pub search_skips : (k n : ℕ) (bs : List ℕ) → search_high k n bs ≡ search_high 0 n (drop k bs)
search_skips zero n bs = refl
search_skips (suc k) n [] = refl
search_skips (suc k) n (b ∷ bs) = search_skips k n bs

-- The search at a record: none is found where it cannot be read or no wire more may stand,
pub search_stops : (n : ℕ) (bytes : List ℕ) → (is_some (misread (get_or bytes 0 0) (drop 1 bytes)) || leb 512 n) ≡ true → search_high 0 n bytes ≡ None
search_stops n [] e = refl
search_stops n (b ∷ bs) e = ap (λ (t : Bool). cond t None (cond (or_of (map (leb n) (pins_asked (request_at b bs)))) (Some (first_high n (pins_asked (request_at b bs)))) (search_high (body_size b) (suc n) bs))) e

-- else the first pin too high, if it has one,
pub search_finds : (n : ℕ) (bytes : List ℕ) → 0 < length bytes → misread (get_or bytes 0 0) (drop 1 bytes) ≡ None → n < 512
    → or_of (map (leb n) (pins_asked (request_of bytes))) ≡ true → search_high 0 n bytes ≡ Some (first_high n (pins_asked (request_of bytes)))
search_finds n [] some read few high = absurd (omega arith)
search_finds n (b ∷ bs) some read few high =
    let x = ap is_some read in
    let y = lt-leb 512 n few in
    found x y high
  where
    found : {x y z : Bool} → x ≡ false → y ≡ false → z ≡ true
        → cond (x || y) None (cond z (Some (first_high n (pins_asked (request_at b bs)))) (search_high (body_size b) (suc n) bs)) ≡ Some (first_high n (pins_asked (request_at b bs)))
    found {x} {y} {z} p q r = rw (p, q, r)

-- and otherwise it goes on after the record.
pub search_goes_on : (n : ℕ) (bytes : List ℕ) → 0 < length bytes → misread (get_or bytes 0 0) (drop 1 bytes) ≡ None → n < 512
    → or_of (map (leb n) (pins_asked (request_of bytes))) ≡ false → search_high 0 n bytes ≡ search_high 0 (n + 1) (drop (record_length bytes) bytes)
search_goes_on n [] some read few high = absurd (omega arith)
search_goes_on n (b ∷ bs) some read few high =
    let x = ap is_some read in
    let y = lt-leb 512 n few in
    goes x y high ∙ search_skips (body_size b) (suc n) bs ∙ ap (λ (m : ℕ). search_high 0 m (drop (body_size b) bs)) (sym (add-one n))
  where
    goes : {x y z : Bool} → x ≡ false → y ≡ false → z ≡ false
        → cond (x || y) None (cond z (Some (first_high n (pins_asked (request_at b bs)))) (search_high (body_size b) (suc n) bs)) ≡ search_high (body_size b) (suc n) bs
    goes {x} {y} {z} p q r = rw (p, q, r)

-- The bytes from a record on.
pub rest_length : (bytes : List ℕ) (at : ℕ) → length (take (length bytes - at) (drop at bytes)) ≡ length bytes - at
rest_length bytes at = ap length (take_rest bytes at) ∙ length-drop at bytes
