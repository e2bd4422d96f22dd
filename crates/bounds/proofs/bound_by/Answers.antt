use borrow.Author.Tests.{ne_eqb}
use Rattle.bounds.specs.Letters.{bound_by}
use Rattle.bounds.proofs.bound_by.Goals as goal

pub returns-in-78 : goal.returns-in-78
unfolding bound_by
returns-in-78 c = rw c.in-78.is

pub returns-in-97 : goal.returns-in-97
unfolding bound_by
returns-in-97 c = rw c.in-97.is

pub returns-in-98 : goal.returns-in-98
unfolding bound_by
returns-in-98 c = rw c.in-98.is

pub returns-in-99 : goal.returns-in-99
unfolding bound_by
returns-in-99 c = rw c.in-99.is

pub returns-in-100 : goal.returns-in-100
unfolding bound_by
returns-in-100 c = rw c.in-100.is

pub returns-in-101 : goal.returns-in-101
unfolding bound_by
returns-in-101 c = rw c.in-101.is

pub returns-in-102 : goal.returns-in-102
unfolding bound_by
returns-in-102 c = rw c.in-102.is

pub returns-in-103 : goal.returns-in-103
unfolding bound_by
returns-in-103 c = rw c.in-103.is

pub returns-in-104 : goal.returns-in-104
unfolding bound_by
returns-in-104 c = rw c.in-104.is

pub returns-in-105 : goal.returns-in-105
unfolding bound_by
returns-in-105 c = rw c.in-105.is

pub returns-in-106 : goal.returns-in-106
unfolding bound_by
returns-in-106 c = rw c.in-106.is

pub returns-in-107 : goal.returns-in-107
unfolding bound_by
returns-in-107 c = rw c.in-107.is

pub returns-in-108 : goal.returns-in-108
unfolding bound_by
returns-in-108 c = rw c.in-108.is

pub returns-in-109 : goal.returns-in-109
unfolding bound_by
returns-in-109 c = rw c.in-109.is

pub returns-in-110 : goal.returns-in-110
unfolding bound_by
returns-in-110 c = rw c.in-110.is

pub returns-in-111 : goal.returns-in-111
unfolding bound_by
returns-in-111 c = rw c.in-111.is

pub returns-in-112 : goal.returns-in-112
unfolding bound_by
returns-in-112 c = rw c.in-112.is

pub returns-in-113 : goal.returns-in-113
unfolding bound_by
returns-in-113 c = rw c.in-113.is

pub returns-in-114 : goal.returns-in-114
unfolding bound_by
returns-in-114 c = rw c.in-114.is

pub returns-in-115 : goal.returns-in-115
unfolding bound_by
returns-in-115 c = rw c.in-115.is

pub returns-in-116 : goal.returns-in-116
unfolding bound_by
returns-in-116 c = rw c.in-116.is

pub returns-in-118 : goal.returns-in-118
unfolding bound_by
returns-in-118 c = rw c.in-118.is

pub returns-in-117 : goal.returns-in-117
unfolding bound_by
returns-in-117 c = rw c.in-117.is

pub returns-in-119 : goal.returns-in-119
unfolding bound_by
returns-in-119 c = rw c.in-119.is

pub returns-in-120 : goal.returns-in-120
unfolding bound_by
returns-in-120 c = rw c.in-120.is

pub returns-in-121 : goal.returns-in-121
unfolding bound_by
returns-in-121 c = rw c.in-121.is

pub returns-in-122 : goal.returns-in-122
unfolding bound_by
returns-in-122 c = rw c.in-122.is

pub returns-in_default : goal.returns-in_default
unfolding bound_by
returns-in_default c = let r = c.in_default.in_default-own.rest in simp (ne_eqb _ 78 r.0.0.0.0.0.0.0.0.0.0.0.0.0.0.0.0.0.0.0.0.0.0.0.0.0.0.1, ne_eqb _ 97 r.0.0.0.0.0.0.0.0.0.0.0.0.0.0.0.0.0.0.0.0.0.0.0.0.0.1, ne_eqb _ 98 r.0.0.0.0.0.0.0.0.0.0.0.0.0.0.0.0.0.0.0.0.0.0.0.0.1, ne_eqb _ 99 r.0.0.0.0.0.0.0.0.0.0.0.0.0.0.0.0.0.0.0.0.0.0.0.1, ne_eqb _ 100 r.0.0.0.0.0.0.0.0.0.0.0.0.0.0.0.0.0.0.0.0.0.0.1, ne_eqb _ 101 r.0.0.0.0.0.0.0.0.0.0.0.0.0.0.0.0.0.0.0.0.0.1, ne_eqb _ 102 r.0.0.0.0.0.0.0.0.0.0.0.0.0.0.0.0.0.0.0.0.1, ne_eqb _ 103 r.0.0.0.0.0.0.0.0.0.0.0.0.0.0.0.0.0.0.0.1, ne_eqb _ 104 r.0.0.0.0.0.0.0.0.0.0.0.0.0.0.0.0.0.0.1, ne_eqb _ 105 r.0.0.0.0.0.0.0.0.0.0.0.0.0.0.0.0.0.1, ne_eqb _ 106 r.0.0.0.0.0.0.0.0.0.0.0.0.0.0.0.0.1, ne_eqb _ 107 r.0.0.0.0.0.0.0.0.0.0.0.0.0.0.0.1, ne_eqb _ 108 r.0.0.0.0.0.0.0.0.0.0.0.0.0.0.1, ne_eqb _ 109 r.0.0.0.0.0.0.0.0.0.0.0.0.0.1, ne_eqb _ 110 r.0.0.0.0.0.0.0.0.0.0.0.0.1, ne_eqb _ 111 r.0.0.0.0.0.0.0.0.0.0.0.1, ne_eqb _ 112 r.0.0.0.0.0.0.0.0.0.0.1, ne_eqb _ 113 r.0.0.0.0.0.0.0.0.0.1, ne_eqb _ 114 r.0.0.0.0.0.0.0.0.1, ne_eqb _ 115 r.0.0.0.0.0.0.0.1, ne_eqb _ 116 r.0.0.0.0.0.0.1, ne_eqb _ 118 r.0.0.0.0.0.1, ne_eqb _ 117 r.0.0.0.0.1, ne_eqb _ 119 r.0.0.0.1, ne_eqb _ 120 r.0.0.1, ne_eqb _ 121 r.0.1, ne_eqb _ 122 r.1)
