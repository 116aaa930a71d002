-- What placing keeps: lower pins, and columns of grades.
use Rattle.std.proofs.Common.{◌≡◌, ℕ, ◌<◌, ◌≤◌, Bool, true, false, cond, ltb, leb, List, [], ◌∷◌, ◌++◌, map, Some, None, Ok, Err, Option, sym, refl, ap, ◌∙◌, arith}
use Rattle.std.proofs.lemmas.List.{map_push}
use Rattle.std.proofs.lemmas.Bool.{leb-false, le-ltb}
use Rattle.nets.specs.declared.fault.NetFault.{NetFault}
use Rattle.nets.specs.declared.fault.NetFault.TheVariants.{NoSuchWire, BadStart, ShortColumn}
use Rattle.nets.specs.Placing.{Request, room_checks, request_checks, refusal, question_checks}
use Rattle.nets.specs.declared.told.Told.{Told}
use Rattle.nets.specs.declared.wire.Wire.{Wire}
use Rattle.nets.specs.Faults.{Check, first_fault, unless, settled}
use Rattle.nets.specs.Wires.{Plain, input, gate, pins_of, Below, Within}
use Rattle.nets.specs.Tables.{plain}

-- A wire within n has pins below n.
pub within_below : (n : ℕ) (w : Plain) → Within n w → Below n (pins_of w)
within_below n (input b c) h k within = absurd (omega arith)
within_below n (gate kind ps) h k within = h.1 k within

-- The wires of a table, one more.
pub wires_push : (vs us : List Wire) (v : Wire) → us ≡ vs ++ v ∷ [] → map plain us ≡ map plain vs ++ plain v ∷ []
wires_push vs us v e = ap (map plain) e ∙ map_push plain vs v

-- Checks after checks that pass, and after one that refuses.
pub faults_past : (cs ds : List Check) → first_fault cs ≡ None → first_fault (cs ++ ds) ≡ first_fault ds
faults_past [] ds e = refl
faults_past (c ∷ cs) ds e = go c.refuses (faults_past cs ds) e
  where
    go : (b : Bool) → (first_fault cs ≡ None → first_fault (cs ++ ds) ≡ first_fault ds) → cond b (Some c.fault) (first_fault cs) ≡ None → cond b (Some c.fault) (first_fault (cs ++ ds)) ≡ first_fault ds
    go true past e = absurd (let z : ◌≡◌ {A = ℕ} 0 1 = cc in omega arith)
    go false past e = past e

pub faults_stop : (cs ds : List Check) (f : NetFault) → first_fault cs ≡ Some f → first_fault (cs ++ ds) ≡ Some f
faults_stop [] ds f e = absurd (let z : ◌≡◌ {A = ℕ} 0 1 = cc in omega arith)
faults_stop (c ∷ cs) ds f e = go c.refuses (faults_stop cs ds f) e
  where
    go : (b : Bool) → (first_fault cs ≡ Some f → first_fault (cs ++ ds) ≡ Some f) → cond b (Some c.fault) (first_fault cs) ≡ Some f → cond b (Some c.fault) (first_fault (cs ++ ds)) ≡ Some f
    go true stop e = e
    go false stop e = stop e

-- What an answer tells of the checks.
pub unless_ok : {A B : Type 0} (o : Option B) (x y : A) → unless o x ≡ Ok y → (o ≡ None) × (x ≡ y)
unless_ok None x y e = (refl, cc)
unless_ok (Some f) x y e = absurd (let z : ◌≡◌ {A = ℕ} 0 1 = cc in omega arith)

pub unless_err : {A B : Type 0} (o : Option B) (x : A) (f : B) → unless o x ≡ Err f → o ≡ Some f
unless_err None x f e = absurd (let z : ◌≡◌ {A = ℕ} 0 1 = cc in omega arith)
unless_err (Some g) x f e = cc

-- What stands where checks pass.
pub unless_passed : {A B : Type 0} (o : Option B) (x : A) → o ≡ None → Ok x ≡ unless o x
unless_passed o x e = ap (λ p. unless p x) (sym e)

pub settled_passed : {A B : Type 0} (o : Option B) (new old : A) → o ≡ None → new ≡ settled o new old
settled_passed o new old e = ap (λ p. settled p new old) (sym e)

-- What stands where one refuses.
pub unless_refused : {A B : Type 0} (o : Option B) (x : A) (f : B) → o ≡ Some f → Err f ≡ unless o x
unless_refused o x f e = ap (λ p. unless p x) (sym e)

pub settled_refused : {A B : Type 0} (o : Option B) (new old : A) (f : B) → o ≡ Some f → old ≡ settled o new old
settled_refused o new old f e = ap (λ p. settled p new old) (sym e)

-- A request is admitted where there is room and its own checks pass, and refused otherwise.
pub admitted : (n long number : ℕ) (q : Request) → first_fault (room_checks n long) ≡ None → n ≡ number → first_fault (request_checks number q) ≡ None → refusal n long q ≡ None
admitted n long number q room same own = faults_past (room_checks n long) (request_checks n q) room ∙ ap (λ (m : ℕ). first_fault (request_checks m q)) same ∙ own

pub refused_room : (n long : ℕ) (q : Request) (f : NetFault) → first_fault (room_checks n long) ≡ Some f → refusal n long q ≡ Some f
refused_room n long q f room = faults_stop (room_checks n long) (request_checks n q) f room

pub refused_request : (n long number : ℕ) (q : Request) (f : NetFault) → first_fault (room_checks n long) ≡ None → n ≡ number → first_fault (request_checks number q) ≡ Some f → refusal n long q ≡ Some f
refused_request n long number q f room same own = faults_past (room_checks n long) (request_checks n q) room ∙ ap (λ (m : ℕ). first_fault (request_checks m q)) same ∙ own

-- A start of 0 or 1 passes.
pub input_passes : (start : ℕ) → start ≤ 1 → cond (ltb 1 start) (Some BadStart) None ≡ None
input_passes start h = ap (λ (b : Bool). cond b (Some BadStart) None) (le-ltb 1 start h)

-- A question that is answered is about a standing wire.
pub asked_stands : (n long w : ℕ) → first_fault (question_checks n long w) ≡ None → w < n
asked_stands n long w e = go (leb n w) refl e
  where
    go : (b : Bool) → leb n w ≡ b → cond b (Some NoSuchWire) (cond (ltb long n) (Some ShortColumn) None) ≡ None → w < n
    go true p e = absurd (let z : ◌≡◌ {A = ℕ} 0 1 = cc in omega arith)
    go false p e = leb-false n w p

-- What is told is equal part by part.
pub same_told : (r s : Told) → r.start ≡ s.start → r.«end» ≡ s.«end» → r.verdict ≡ s.verdict → r ≡ s
same_told r s p q v = λ i. record { start = p i; «end» = q i; verdict = v i }
