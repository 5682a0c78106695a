pub mod LongValued
