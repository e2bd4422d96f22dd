-- The rows of the table `forms` by name: by their letters where these are two capitals or three, else by what the command is for.
-- Assumes nothing.
use Rattle.std.specs.Prelude.{ℕ}

abbrev pub LENGTH : ℕ
LENGTH = 0

abbrev pub WIDTH : ℕ
WIDTH = 1

abbrev pub ORIGIN : ℕ
ORIGIN = 2

abbrev pub ZT : ℕ
ZT = 3

abbrev pub ZB : ℕ
ZB = 4

abbrev pub LO : ℕ
LO = 5

abbrev pub LE : ℕ
LE = 6

abbrev pub LW : ℕ
LW = 7

abbrev pub FRAME : ℕ
FRAME = 8

abbrev pub TEXT : ℕ
TEXT = 9

abbrev pub BARS : ℕ
BARS = 10

abbrev pub GG : ℕ
GG = 11

abbrev pub FS : ℕ
FS = 12

abbrev pub FE : ℕ
FE = 13

abbrev pub FR : ℕ
FR = 14

abbrev pub FK : ℕ
FK = 15

abbrev pub GK : ℕ
GK = 16

abbrev pub FI : ℕ
FI = 17

abbrev pub GI : ℕ
GI = 18

abbrev pub FP : ℕ
FP = 19

abbrev pub GM : ℕ
GM = 20

abbrev pub VC : ℕ
VC = 21

abbrev pub VARIABLE : ℕ
VARIABLE = 22

abbrev pub COUNTER : ℕ
COUNTER = 23

abbrev pub SET-VARIABLE : ℕ
SET-VARIABLE = 24

abbrev pub SET-COUNTER : ℕ
SET-COUNTER = 25

abbrev pub PRINT : ℕ
PRINT = 26

abbrev pub WHITE : ℕ
WHITE = 27

abbrev pub LS : ℕ
LS = 28

abbrev pub LSE : ℕ
LSE = 29

abbrev pub LSW : ℕ
LSW = 30

abbrev pub TS : ℕ
TS = 31

abbrev pub TD : ℕ
TD = 32

abbrev pub TT : ℕ
TT = 33

-- Where the number stands that names a variable or a counter: behind the one letter of V and C, and behind the two of ?V and ?C.
abbrev pub DECLARED-AT : ℕ
DECLARED-AT = 1

abbrev pub ENTERED-AT : ℕ
ENTERED-AT = 2
