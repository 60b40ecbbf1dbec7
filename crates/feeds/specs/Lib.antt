-- Plain and crossover calls one after the other.
pub mod Mixed
