pub mod VerdictWritten
